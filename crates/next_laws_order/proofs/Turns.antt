-- Each turn keeps the spans of each client's calls.
use Rattle.std.proofs.Common.{◌≡◌, ℕ, ◌+◌, ◌<◌, ◌≤◌, List, [], ◌∷◌, ◌++◌, map, Bool, true, false, refl, sym, ap, subst, arith}
use Rattle.std.specs.Prelude.{if◌then◌else◌, ◌&&◌, ◌==◌, ◌%◌, not, Option, Some, None}
use Rattle.std.proofs.lemmas.Bool.Decides.{nat_tests}
use Rattle.next_ids.specs.declared.ids.Client.{Client}
use Rattle.next_ids.specs.declared.ids.Actor.{Actor}
use Rattle.next_ids.specs.declared.ids.Actor.TheVariants.{Client as ClientActor, Renamer, Collector}
use Rattle.next_ids.specs.declared.ids.PlaceNo.{PlaceNo}
use Rattle.next_ids.specs.declared.ids.Stamp.{Stamp}
use Rattle.next_ids.specs.declared.counts.Counts.{Counts}
use Rattle.next_ids.specs.declared.call.Call.{Call}
use Rattle.next_ids.specs.declared.call.Call.TheVariants as call
use Rattle.next_ids.specs.Times.{ts_at}
use Rattle.next_steps.specs.declared.ask.Ask.{Ask}
use Rattle.next_steps.specs.declared.ask.Ask.TheVariants as ask
use Rattle.next_steps.specs.declared.call_done.CallDone.{CallDone}
use Rattle.next_steps.specs.declared.entry.Entry.{Entry}
use Rattle.next_steps.specs.Asks.{place_of, ts_of}
use Rattle.next_steps.specs.Counts.{index_for}
use Rattle.next_steps.specs.Phases.{Phase, Asking, Reads, Writes, Removes, Finished, ReaderPhase, WriterPhase, RemoverPhase}
use Rattle.next_steps.specs.Phases as phase
use Rattle.next_steps.specs.Ends.{stamp_of}
use Rattle.next_steps.specs.Readers.{begun_reading, ask_reading}
use Rattle.next_steps.specs.Writers.{begun_writing, ask_writing}
use Rattle.next_steps.specs.Removers.{begun_removing, ask_removing}
use Rattle.next_steps.specs.JobAsks.{ask_job}
use Rattle.next_steps.specs.Rounds.{ask_round}
use Rattle.next_steps.specs.Calls.{first_ask, ask_of, heard, is_going}
use Rattle.next_rules.specs.Contents.{Served, entry_by, number_after}
use Rattle.next_rules.specs.Histories.{is_at}
use Rattle.next_rules.specs.Pasts.{is_leaving}
use Rattle.next_rules.specs.Setups.{AreCounts}
use Rattle.next_rules.specs.Actors.{Plan, Ends, Calls, starts, Progress, Doing, Nothing, Stops, Leaves, Goes, client_of, first_of, is_due, doing_of, doing, put_index, asked, with_phase, hears_doing, hears, begun_in, last_of, set_client}
use Rattle.next_rules.specs.Worlds.{Service, World, Turn, Setup, stamped, serve, set_last, after_served, step_number, turn_asking, turn, run_of, opening, played}
use Rattle.next_laws_order.specs.OwnSteps.{is_call_step}
use Rattle.next_laws_order.proofs.Stamps.{IsFresh, IsLow, fresh_step, low_set}
use Rattle.std.proofs.lemmas.List.{append-nil}
use Rattle.next_laws_order.proofs.Lists.{Every, Pairs}
use Rattle.next_laws_order.proofs.Orders.{Comes, IsOver, order-grown, order-begun, order-continued}
use Rattle.next_laws_order.proofs.Spans.{Span, IsOwnSpan, OwnSpans, IsNow, spans-grown, spans-begun, spans-continued}
use Rattle.next_laws_order.proofs.Heard.{Continues, is_asking, first-begins, later-continues}
use Rattle.next_laws_order.proofs.Answers.{goes_on}

-- ---- the spans of a client's calls
abbrev pub span_of : CallDone → Span
span_of d = record { first = d.first; last = Some d.last }

abbrev pub begun_spans : Option (Call × Stamp) → List Span
begun_spans None = []
begun_spans (Some begun) = record { first = begun.1; last = None } ∷ []

abbrev pub spans : List CallDone → Option Phase → List Span
spans done current = map span_of done ++ begun_spans (begun_in current)

abbrev pub HasOwnSpans : List (PlaceNo × Entry) → ℕ → List CallDone → Option Phase → Type 0
HasOwnSpans run c done current = OwnSpans run (client_of c) (spans done current)

-- the current call isn't finished
abbrev pub IsGoing : Option Phase → Type 0
IsGoing None = Unit {0}
IsGoing (Some p) = is_going p ≡ true

abbrev pub spans_in : Progress → List Span
spans_in p = spans p.done p.current

pub record ClientHolds (run : List (PlaceNo × Entry)) (c : ℕ) (p : Progress) : Type 0 where
  pub spans : HasOwnSpans run c p.done p.current
  pub order : Pairs (Comes run) (spans_in p)
  pub going : IsGoing p.current

pub record Holds (w : World) : Type 0 where
  pub low : IsLow w.lasts w.run
  pub clients : (i : ℕ) → ClientHolds w.run i (w.actors.clients i)

-- ---- a step of a call
all_over : (done : List CallDone) → Every IsOver (map span_of done)
all_over [] = tt
all_over (d ∷ done) = ((d.last, refl), all_over done)

-- one more finished call, before the next begins
spans-end : (done : List CallDone) (d : CallDone) (plan : Plan) → spans (done ++ d ∷ []) (first_of plan) ≡ map span_of done ++ span_of d ∷ []
spans-end [] d Ends = refl
spans-end [] d (Calls call next) = refl
spans-end (x ∷ done) d plan = ap (λ l. span_of x ∷ l) (spans-end done d plan)

going_first : (plan : Plan) → IsGoing (first_of plan)
going_first Ends = tt
going_first (Calls call next) = refl

module _ (run : List (PlaceNo × Entry)) (e : PlaceNo × Entry) (fresh : IsFresh run e) (c : ℕ) (by : is_call_step (client_of c) e.1 ≡ true) (p : Progress) where
  abbrev s : Stamp
  s = stamp_of e.0 e.1

  here : is_at s e ≡ true
  here = grind (arith, nat_tests)

  -- by what the call has come to, where its spans so far are these
  module _ (first : Stamp) (now : (last : Option Stamp) → IsNow e last → OwnSpans (e ∷ run) (client_of c) (map span_of p.done ++ record { first = first; last = last } ∷ []))
      (ordered : (last : Option Stamp) → Pairs (Comes (e ∷ run)) (map span_of p.done ++ record { first = first; last = last } ∷ [])) where
    begun-at : (f : Stamp) → f ≡ first → OwnSpans (e ∷ run) (client_of c) (map span_of p.done ++ record { first = f; last = None } ∷ [])
    begun-at f is = subst (λ x. OwnSpans (e ∷ run) (client_of c) (map span_of p.done ++ record { first = x; last = None } ∷ [])) (sym is) (now None tt)

    ended-at : (d : CallDone) → d.first ≡ first → d.last ≡ s → OwnSpans (e ∷ run) (client_of c) (map span_of p.done ++ span_of d ∷ [])
    ended-at d f l = subst (λ x. OwnSpans (e ∷ run) (client_of c) (map span_of p.done ++ record { first = x; last = Some d.last } ∷ [])) (sym f)
        (subst (λ x. OwnSpans (e ∷ run) (client_of c) (map span_of p.done ++ record { first = first; last = Some x } ∷ [])) (sym l) (now (Some s) here))

    ordered-at : (f : Stamp) → f ≡ first → (last : Option Stamp) → Pairs (Comes (e ∷ run)) (map span_of p.done ++ record { first = f; last = last } ∷ [])
    ordered-at f is last = subst (λ x. Pairs (Comes (e ∷ run)) (map span_of p.done ++ record { first = x; last = last } ∷ [])) (sym is) (ordered last)

    with-heard : (q : Phase) → Continues first s q → ClientHolds (e ∷ run) c (with_phase p e.1 q)
    with-heard (Asking x) h = absurd h
    with-heard (Reads q) h = record { spans = begun-at _ h; order = ordered-at _ h None; going = refl }
    with-heard (Writes q) h = record { spans = begun-at _ h; order = ordered-at _ h None; going = refl }
    with-heard (Removes q) h = record { spans = begun-at _ h; order = ordered-at _ h None; going = refl }
    with-heard (Finished d) h = record {
      spans = subst (OwnSpans (e ∷ run) (client_of c)) (sym (spans-end p.done d (p.rest d.reply))) (ended-at d h.0 h.1);
      order = subst (Pairs (Comes (e ∷ run))) (sym (spans-end p.done d (p.rest d.reply))) (ordered-at d.first h.0 (Some d.last));
      going = going_first (p.rest d.reply);
    }

  first_step : HasOwnSpans run c p.done None → (last : Option Stamp) → IsNow e last → OwnSpans (e ∷ run) (client_of c) (map span_of p.done ++ record { first = s; last = last } ∷ [])
  first_step h last is = spans-begun run e fresh (client_of c) (map span_of p.done) s last by here is h

  first_order : HasOwnSpans run c p.done None → Pairs (Comes run) (map span_of p.done ++ []) → (last : Option Stamp) → Pairs (Comes (e ∷ run)) (map span_of p.done ++ record { first = s; last = last } ∷ [])
  first_order h ordered last = order-begun run e fresh (client_of c) (map span_of p.done) s last here
      (subst (Every (IsOwnSpan run (client_of c))) (append-nil (map span_of p.done)) h.own) (all_over p.done) (subst (Pairs (Comes run)) (append-nil (map span_of p.done)) ordered)

  later_order : (first : Stamp) → OwnSpans run (client_of c) (map span_of p.done ++ record { first = first; last = None } ∷ []) → Pairs (Comes run) (map span_of p.done ++ record { first = first; last = None } ∷ [])
      → (last : Option Stamp) → Pairs (Comes (e ∷ run)) (map span_of p.done ++ record { first = first; last = last } ∷ [])
  later_order first h ordered last = order-continued run e fresh (client_of c) (map span_of p.done) first last h.own ordered

  later_step : (first : Stamp) → OwnSpans run (client_of c) (map span_of p.done ++ record { first = first; last = None } ∷ [])
      → (last : Option Stamp) → IsNow e last → OwnSpans (e ∷ run) (client_of c) (map span_of p.done ++ record { first = first; last = last } ∷ [])
  later_step first h last is = spans-continued run e fresh (client_of c) (map span_of p.done) first last by is h

  pub step-heard : (q : Phase) → is_going q ≡ true → (is_asking q ≡ true → is_asking (heard q e.0 e.1) ≡ false) → HasOwnSpans run c p.done (Some q) → Pairs (Comes run) (spans p.done (Some q)) → ClientHolds (e ∷ run) c (with_phase p e.1 (heard q e.0 e.1))
  step-heard (Asking x) going goes h o = with-heard s (first_step h) (first_order h o) (heard (Asking x) e.0 e.1) (first-begins x s (ts_of e.1) e.1.answer (goes refl))
  step-heard (Reads q) going goes h o = with-heard (begun_reading q).1 (later_step (begun_reading q).1 h) (later_order (begun_reading q).1 h o) (heard (Reads q) e.0 e.1) (later-continues (Reads q) (begun_reading q).1 s (ts_of e.1) e.1.answer refl)
  step-heard (Writes q) going goes h o = with-heard (begun_writing q).1 (later_step (begun_writing q).1 h) (later_order (begun_writing q).1 h o) (heard (Writes q) e.0 e.1) (later-continues (Writes q) (begun_writing q).1 s (ts_of e.1) e.1.answer refl)
  step-heard (Removes q) going goes h o = with-heard (begun_removing q).1 (later_step (begun_removing q).1 h) (later_order (begun_removing q).1 h o) (heard (Removes q) e.0 e.1) (later-continues (Removes q) (begun_removing q).1 s (ts_of e.1) e.1.answer refl)
  step-heard (Finished d) going goes h o = absurd (cc)

-- ---- the asks of a call are steps of it
first_stays : (c : Client) (index : ℕ) (last : _) (x : Call) → is_leaving (first_ask c index last x) ≡ false
first_stays c index last (call.Lookup dir name) = refl
first_stays c index last (call.List dir) = refl
first_stays c index last call.StatRoot = refl
first_stays c index last (call.Stat dir name) = refl
first_stays c index last (call.Create dir name) = refl
first_stays c index last (call.Mkdir dir name) = refl
first_stays c index last (call.Unlink dir name) = refl
first_stays c index last (call.Rmdir dir name) = refl
first_stays c index last (call.Truncate file size) = refl
first_stays c index last (call.Rename dir name to_dir to_name) = by_test (dir.0 == to_dir.0)
  where
    by_test : (b : Bool) → is_leaving (if b then ask.Swap c dir name to_name last else ask.Submit c dir name to_dir to_name last) ≡ false
    by_test true = refl
    by_test false = refl

reading_stays : (q : ReaderPhase) → is_leaving (ask_reading q) ≡ false
reading_stays (phase.ListHelping dir note first) = refl
reading_stays (phase.RootLooking first) = refl
reading_stays (phase.StatReading dir name first) = refl
reading_stays (phase.StatLooking dir name child first) = refl
reading_stays (phase.StatHelping dir name note first) = refl
reading_stays (phase.StatGetting dir name file row first) = refl
reading_stays (phase.StatChecking dir name file row found got first) = refl

writing_stays : (c : Client) (q : WriterPhase) → is_leaving (ask_writing c q) ≡ false
writing_stays c (phase.Inserting dir name node ts first) = refl
writing_stays c (phase.Settling dir name node ts first at) = refl
writing_stays c (phase.MakeHelping dir name node note first) = refl
writing_stays c (phase.TakingBack dir name node reply at first) = refl
writing_stays c (phase.Dropping x file ts first at) = refl
writing_stays c (phase.Clearing x file ts first at) = refl
writing_stays c (phase.Submitting dir name to_dir to_name ts first) = refl
writing_stays c (phase.Collecting dir name to_dir to_name job ts first) = refl

removing_stays : (c : Client) (last : _) (q : RemoverPhase) → is_leaving (ask_removing c last q) ≡ false
removing_stays c last (phase.RowReading dir name ts first) = refl
removing_stays c last (phase.Marking dir name child ts first) = refl
removing_stays c last (phase.MarkHelping dir name note ts first) = refl
removing_stays c last (phase.Removing dir name child ts first) = refl
removing_stays c last (phase.RecDropping dir name child ts first at) = refl
removing_stays c last (phase.RecClearing dir name child ts first at) = refl

call_stays : (c : Client) (index : ℕ) (last : _) (q : Phase) → is_going q ≡ true → is_leaving (ask_of c index last q) ≡ false
call_stays c index last (Asking x) going = first_stays c index last x
call_stays c index last (Reads q) going = reading_stays q
call_stays c index last (Writes q) going = writing_stays c q
call_stays c index last (Removes q) going = removing_stays c last q
call_stays c index last (Finished d) going = absurd (cc)

-- ---- one step of a world
own_step : (c : ℕ) (b : Bool) → b ≡ false → ((c == c) && not b) ≡ true
own_step c b h = rw h (grind (arith, nat_tests))

other_step : (c i : ℕ) (b : Bool) → (i == c) ≡ false → ((c == i) && b) ≡ false
other_step c i b h = let differ : (c == i) ≡ false = grind (arith, nat_tests) in rw differ refl

no_call_step : (a b : Bool) → b ≡ true → (a && not b) ≡ false
no_call_step true b h = rw h refl
no_call_step false b h = refl

low_index : (n k : ℕ) → (1 ≤ k) × (k ≤ 64) → n % k < 64
low_index n k h = let some = h.0 in let few = h.1 in let low : n % k < k = omega arith in omega arith

index_low : (counts : Counts) → AreCounts counts → (c : Client) (puts : ℕ) (x : Call) → index_for counts c puts x < 64
index_low counts good c puts (call.Mkdir dir name) = low_index (c.0 + puts) counts.shards good.shards
index_low counts good c puts x = low_index (c.0 + puts) counts.stores good.stores

goes_current : (ended due : Bool) (current : Option Phase) (q : Phase) → doing_of ended due current ≡ Goes q → current ≡ Some q
goes_current true due current q is = cc
goes_current false true current q is = cc
goes_current false false None q is = cc
goes_current false false (Some r) q is = let same : r ≡ q = cc in ap Some same

module _ (counts : Counts) (good : AreCounts counts) (w : World) (h : Holds w) (moment : ℕ) where
  above : (last : ℕ) (x : Ask) → w.lasts (place_of x).0 < number_after last (w.lasts (place_of x).0)
  above last x = omega arith

  -- ---- a step of an actor, with its entry
  module _ (actor : Actor) (x : Ask) (s : Served Service) where
    abbrev number : ℕ
    number = step_number w actor x

    abbrev entry : Entry
    entry = entry_by actor number moment x s

    abbrev run' : List (PlaceNo × Entry)
    run' = (place_of x, entry) ∷ w.run

    fresh : IsFresh w.run (place_of x, entry)
    fresh = fresh_step w.lasts w.run (place_of x, entry) h.low (above (last_of w.actors actor) x)

    low' : IsLow (set_last w.lasts (place_of x).0 number) run'
    low' = low_set w.lasts w.run (place_of x) entry h.low (above (last_of w.actors actor) x)

    -- the step is of no call of this client
    unmoved : (i : ℕ) → is_call_step (client_of i) entry ≡ false → ClientHolds run' i (w.actors.clients i)
    unmoved i other = let own = h.clients i in
        record { spans = spans-grown w.run (place_of x, entry) fresh (client_of i) (spans (w.actors.clients i).done (w.actors.clients i).current) other own.spans; order = order-grown w.run (place_of x, entry) fresh (client_of i) (spans_in (w.actors.clients i)) own.spans.own own.order; going = own.going }

  -- ---- the Renamer and the collector
  renamer-step : (x : Ask) (r : Option (Served Service)) → Holds (after_served counts w Renamer x (step_number w Renamer x) moment r)
  renamer-step x None = h
  renamer-step x (Some s) = record { low = low' Renamer x s; clients = λ i. unmoved Renamer x s i refl }

  collector-step : (x : Ask) (r : Option (Served Service)) → Holds (after_served counts w Collector x (step_number w Collector x) moment r)
  collector-step x None = h
  collector-step x (Some s) = record { low = low' Collector x s; clients = λ i. unmoved Collector x s i refl }

  -- ---- a client
  module _ (c : ℕ) where
    abbrev who : Actor
    who = ClientActor (client_of c)

    abbrev p : Progress
    p = w.actors.clients c

    -- it is enough to know it of the client itself
    all_hold : (x : Ask) (s : Served Service) (q : Progress) → ClientHolds (run' who x s) c q → (i : ℕ) → ClientHolds (run' who x s) i (set_client w.actors.clients c q i)
    all_hold x s q own i = by_test (i == c) refl
      where
        by_test : (b : Bool) → (i == c) ≡ b → ClientHolds (run' who x s) i (if b then q else w.actors.clients i)
        by_test true t = let same : c ≡ i = grind (arith, nat_tests) in subst (λ j. ClientHolds (run' who x s) j q) same own
        by_test false t = unmoved who x s i (other_step c i (not (is_leaving x)) t)

    holds-after : (x : Ask) (s : Served Service) (q : Progress) → hears p (place_of x) (entry who x s) ≡ q → ClientHolds (run' who x s) c q
        → Holds (after_served counts w who x (step_number w who x) moment (Some s))
    holds-after x s q is own = record {
      low = low' who x s;
      clients = all_hold x s (hears p (place_of x) (entry who x s)) (subst (ClientHolds (run' who x s) c) (sym is) own);
    }

    -- a step that leaves
    leaving-step : (x : Ask) (d : Doing) → is_leaving x ≡ true → doing p ≡ d
        → ((place : PlaceNo) (e : Entry) → ((hears_doing p place e d).done ≡ p.done) × ((hears_doing p place e d).current ≡ p.current))
        → (r : Option (Served Service)) → Holds (after_served counts w who x (step_number w who x) moment r)
    leaving-step x d leaves is keeps None = h
    leaving-step x d leaves is keeps (Some s) =
        let e = entry who x s in
        let k = keeps (place_of x) e in
        let own = unmoved who x s c (no_call_step (c == c) (is_leaving x) leaves) in
        holds-after x s (hears_doing p (place_of x) e d) (ap (hears_doing p (place_of x) e) is)
        (record { spans = rw (k.0, k.1) own.spans; order = rw (k.0, k.1) own.order; going = rw k.1 own.going })

    -- a step of the current call
    abbrev ask_now : Phase → Ask
    ask_now q = ask_of (client_of c) (put_index counts (client_of c) p.puts q) (ts_at moment p.last) q

    going-step : (q : Phase) → doing p ≡ Goes q → p.current ≡ Some q → (r : Option (Served Service))
        → serve w.service (stamped (step_number w who (ask_now q)) (ask_now q)) moment (ask_now q) ≡ r
        → Holds (after_served counts w who (ask_now q) (step_number w who (ask_now q)) moment r)
    going-step q is current None given = h
    going-step q is current (Some s) given =
        let x = ask_now q in
        let e = entry who x s in
        let going : is_going q ≡ true = subst IsGoing current (h.clients c).going in
        let own : HasOwnSpans w.run c p.done (Some q) = subst (λ o. HasOwnSpans w.run c p.done o) current (h.clients c).spans in
        let ordered : Pairs (Comes w.run) (spans p.done (Some q)) = subst (λ o. Pairs (Comes w.run) (spans p.done o)) current (h.clients c).order in
        holds-after x s (with_phase p e (heard q (place_of x) e)) (ap (hears_doing p (place_of x) e) is)
        (step-heard w.run (place_of x, e) (fresh who x s) c (own_step c (is_leaving x) (call_stays (client_of c) (put_index counts (client_of c) p.puts q) (ts_at moment p.last) q going)) p q going (goes q s given) own ordered)
      where
        goes : (q : Phase) (s : Served Service) → serve w.service (stamped (step_number w who (ask_now q)) (ask_now q)) moment (ask_now q) ≡ Some s
            → is_asking q ≡ true → is_asking (heard q (place_of (ask_now q)) (entry who (ask_now q) s)) ≡ false
        goes (Asking x) s given asks = goes_on w.service (client_of c) (index_for counts (client_of c) p.puts x) (index_low counts good (client_of c) p.puts x) (ts_at moment p.last) (step_number w who (ask_now (Asking x))) moment
            (stamp_of (place_of (ask_now (Asking x))) (entry who (ask_now (Asking x)) s)) (ts_of (entry who (ask_now (Asking x)) s)) x s given
        goes (Reads r) s given asks = absurd (cc)
        goes (Writes r) s given asks = absurd (cc)
        goes (Removes r) s given asks = absurd (cc)
        goes (Finished d) s given asks = absurd (cc)

    abbrev served : Ask → Option (Served Service)
    served x = serve w.service (stamped (step_number w who x) x) moment x

    client-turn : (d : Doing) → doing p ≡ d → Holds (turn_asking counts w who moment (asked counts (client_of c) moment p d))
    client-turn Nothing is = h
    client-turn Stops is = leaving-step (ask.Stop (client_of c)) Stops refl is (λ place e. (refl, refl)) (served (ask.Stop (client_of c)))
    client-turn Leaves is = leaving-step (ask.End (client_of c)) Leaves refl is (λ place e. (refl, refl)) (served (ask.End (client_of c)))
    client-turn (Goes q) is = going-step q is (goes_current p.ended (is_due p.stop p.steps) p.current q is) (served (ask_now q)) refl

  -- ---- a turn
  abbrev served_by : Actor → Ask → Option (Served Service)
  served_by actor x = serve w.service (stamped (step_number w actor x) x) moment x

  pub turn-holds : (actor : Actor) → Holds (turn counts w (record { actor = actor; moment = moment }))
  turn-holds (ClientActor c) = client-turn c.0 (doing (w.actors.clients c.0)) refl
  turn-holds Renamer = renamer-step (ask_job w.actors.job) (served_by Renamer (ask_job w.actors.job))
  turn-holds Collector = collector-step (ask_round w.actors.round) (served_by Collector (ask_round w.actors.round))

-- ---- a run
run-holds : (counts : Counts) → AreCounts counts → (turns : List Turn) (w : World) → Holds w → Holds (run_of counts turns w)
run-holds counts good [] w h = h
run-holds counts good (t ∷ turns) w h = run-holds counts good turns (turn counts w t) (turn-holds counts good w h t.moment t.actor)

opening-holds : (setup : Setup) → Holds (opening setup)
opening-holds setup = record { low = λ s there. absurd (cc); clients = λ i. starts-hold i (setup.plans i) (setup.stops i) }
  where
    starts-hold : (i : ℕ) (plan : Plan) (stop : Option ℕ) → ClientHolds [] i (starts plan stop)
    starts-hold i Ends stop = record { spans = record { own = tt; steps = λ p h. absurd (cc) }; order = tt; going = tt }
    starts-hold i (Calls x next) stop = record { spans = record { own = tt; steps = λ p h. absurd (cc) }; order = tt; going = refl }

pub played-holds : (setup : Setup) → AreCounts setup.counts → (turns : List Turn) → Holds (played setup turns)
played-holds setup good turns = run-holds setup.counts good turns (opening setup) (opening-holds setup)
