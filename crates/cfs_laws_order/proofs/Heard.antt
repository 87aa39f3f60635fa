-- What a client hears of its own step keeps the spans of its calls.
use Rattle.std.proofs.Common.{◌≡◌, ℕ, List, [], ◌∷◌, ◌++◌, map, true, refl, sym, ap, subst}
use Rattle.std.specs.Prelude.{Option, Some, None}
use Rattle.cfs_ids.specs.declared.ids.Node.TheVariants.{Dir, File}
use Rattle.cfs_ids.specs.declared.ids.PlaceNo.{PlaceNo}
use Rattle.cfs_ids.specs.declared.ids.Stamp.{Stamp}
use Rattle.cfs_ids.specs.declared.call.Call.{Call}
use Rattle.cfs_ids.specs.declared.call.Call.TheVariants.{Lookup, List as ListCall, Create, Mkdir}
use Rattle.cfs_steps.specs.declared.answer.Answer.{Answer}
use Rattle.cfs_steps.specs.declared.answer.Answer.TheVariants.{Absent, Found, NoDir, Rows, New, Exists, Done}
use Rattle.cfs_steps.specs.declared.call_done.CallDone.{CallDone}
use Rattle.cfs_steps.specs.declared.entry.Entry.{Entry}
use Rattle.cfs_steps.specs.Phases.{Phase, Asking, Inserting, Settling, TakingBack, Finished, heard_first, heard_as, answers_first}
use Rattle.cfs_rules.specs.Histories.{is_at}
use Rattle.cfs_rules.specs.Worlds.{Plan, Ends, Calls, Progress, client_of, begun_of, first_of, with_phase}
use Rattle.cfs_laws_history.proofs.Stamps.{IsFresh}
use Rattle.cfs_laws_order.specs.OwnSteps.{is_call_step}
use Rattle.cfs_laws_order.proofs.Spans.{Span, OwnSpans, IsNow, spans-begun, spans-continued}

abbrev pub span_of : CallDone → Span
span_of d = record { first = d.first; last = Some d.last }

abbrev pub begun_spans : Option (Call × Stamp) → List Span
begun_spans None = []
begun_spans (Some begun) = record { first = begun.1; last = None } ∷ []

-- the spans of a client's calls
abbrev pub spans : List CallDone → Option Phase → List Span
spans done current = map span_of done ++ begun_spans (begun_of current)

abbrev pub HasOwnSpans : List (PlaceNo × Entry) → ℕ → List CallDone → Option Phase → Type 0
HasOwnSpans run c done current = OwnSpans run (client_of c) (spans done current)

-- the answer to a call's first ask is one that the call can hear, and no call that has finished is still asking
abbrev pub IsHeard : Phase → Answer → Type 0
IsHeard (Asking call) answer = answers_first call answer ≡ true
IsHeard (Finished done) answer = ⊥
IsHeard phase answer = Unit {0}

-- one more finished call, before the next begins
spans-end : (done : List CallDone) (d : CallDone) (plan : Plan) → spans (done ++ d ∷ []) (first_of plan) ≡ map span_of done ++ span_of d ∷ []
spans-end [] d Ends = refl
spans-end [] d (Calls call next) = refl
spans-end (x ∷ done) d plan = ap (λ l. span_of x ∷ l) (spans-end done d plan)

module _ (run : List (PlaceNo × Entry)) (e : PlaceNo × Entry) (fresh : IsFresh run e) (c : ℕ) (by : is_call_step (client_of c) e.1 ≡ true) (s : Stamp) (at : is_at s e ≡ true) (p : Progress) where
  abbrev Keeps : Phase → Type 0
  Keeps phase = HasOwnSpans (e ∷ run) c (with_phase p e.1 phase).done (with_phase p e.1 phase).current

  finished : (d : CallDone) → OwnSpans (e ∷ run) (client_of c) (map span_of p.done ++ span_of d ∷ []) → Keeps (Finished d)
  finished d h = subst (OwnSpans (e ∷ run) (client_of c)) (sym (spans-end p.done d (p.rest d.reply))) h

  first_step : (last : Option Stamp) → IsNow e last → OwnSpans run (client_of c) (map span_of p.done ++ []) → OwnSpans (e ∷ run) (client_of c) (map span_of p.done ++ record { first = s; last = last } ∷ [])
  first_step last is h = spans-begun run e fresh (client_of c) (map span_of p.done) s last by at is h

  later_step : (first : Stamp) (last : Option Stamp) → IsNow e last → OwnSpans run (client_of c) (map span_of p.done ++ record { first = first; last = None } ∷ [])
      → OwnSpans (e ∷ run) (client_of c) (map span_of p.done ++ record { first = first; last = last } ∷ [])
  later_step first last is h = spans-continued run e fresh (client_of c) (map span_of p.done) first last by is h

  first_heard : (call : Call) (answer : Answer) → answers_first call answer ≡ true → OwnSpans run (client_of c) (map span_of p.done ++ []) → Keeps (heard_first call s answer)
  first_heard (Lookup dir name) (Found node stamp) fits h = finished _ (first_step (Some s) at h)
  first_heard (Lookup dir name) Absent fits h = finished _ (first_step (Some s) at h)
  first_heard (ListCall dir) (Rows rows) fits h = finished _ (first_step (Some s) at h)
  first_heard (ListCall dir) NoDir fits h = finished _ (first_step (Some s) at h)
  first_heard (Create dir name) (New (File file)) fits h = first_step None tt h
  first_heard (Mkdir dir name) (New (Dir child)) fits h = first_step None tt h
  first_heard call answer fits h = absurd (cc)

  pub spans-heard : (phase : Phase) (answer : Answer) → IsHeard phase answer → HasOwnSpans run c p.done (Some phase) → Keeps (heard_as phase s answer)
  spans-heard (Asking call) answer fits h = first_heard call answer fits h
  spans-heard (Inserting dir name node ts first) (Done replaced) fits h = later_step first None tt h
  spans-heard (Inserting dir name node ts first) Exists fits h = later_step first None tt h
  spans-heard (Inserting dir name node ts first) NoDir fits h = later_step first None tt h
  spans-heard (Inserting dir name node ts first) answer fits h = later_step first None tt h
  spans-heard (Settling dir name node ts first at_step) answer fits h = finished _ (later_step first (Some s) at h)
  spans-heard (TakingBack dir name node errno first at_step) answer fits h = finished _ (later_step first (Some s) at h)
  spans-heard (Finished done) answer fits h = absurd fits
