-- Every run of clients alone keeps what holds of the world, and the ledger is right about it.
use Rattle.std.proofs.Common.{◌≡◌, ℕ, ◌<◌, List, [], ◌∷◌, Bool, true, false, refl, sym, ◌∙◌, ap, subst, arith, inl, inr}
use Rattle.std.specs.Prelude.{◌&&◌, Option, Some, None}
use Rattle.std.specs.List.{list_all}
use Rattle.std.specs.Ordering.{nat_cmp}
use Rattle.std.specs.Cmp.Lexicographic.{slice_cmp}
use Rattle.std.specs.FinMap.{get, get-empty}
use Rattle.next_ids.specs.declared.counts.Counts.{Counts}
use Rattle.next_ids.specs.declared.ids.Actor.{Actor}
use Rattle.next_ids.specs.declared.ids.Actor.TheVariants.{Client as ClientActor, Renamer, Collector}
use Rattle.next_ids.specs.declared.ids.Client.{Client}
use Rattle.next_ids.specs.declared.ids.PlaceNo.{PlaceNo}
use Rattle.next_ids.specs.declared.ids.Stamp.{Stamp}
use Rattle.next_ids.specs.declared.ids.Node.{Node}
use Rattle.next_ids.specs.declared.ids.Node.TheVariants.{Dir}
use Rattle.next_ids.specs.declared.note.MarkNote.{MarkNote}
use Rattle.next_ids.specs.declared.call.Call.{Call}
use Rattle.next_ids.specs.declared.call.Call.TheVariants.{Rmdir}
use Rattle.next_ids.specs.declared.time.Ts.{Ts}
use Rattle.next_steps.specs.declared.answer.Answer.{Answer}
use Rattle.next_steps.specs.declared.ask.Ask.{Ask}
use Rattle.next_steps.specs.declared.ask.Ask.TheVariants as ask
use Rattle.next_steps.specs.declared.contents.Debt.{Debt}
use Rattle.next_steps.specs.declared.contents.Row.{Row}
use Rattle.next_steps.specs.declared.entry.Entry.{Entry}
use Rattle.next_steps.specs.Asks.{shard_of, roster}
use Rattle.next_steps.specs.Ends.{stamp_of}
use Rattle.next_steps.specs.Phases.{Phase, Asking, Reads, Writes, Removes, Finished, WriterPhase, Inserting, Settling, MakeHelping, TakingBack, Dropping, Clearing, Submitting, Collecting, RemoverPhase, RowReading, Marking, MarkHelping, Removing, RecDropping, RecClearing}
use Rattle.next_steps.specs.Writers.{begun_writing}
use Rattle.next_steps.specs.Removers.{begun_removing}
use Rattle.next_rules.specs.Actors.{Progress, Doing, Nothing, Stops, Leaves, Goes as GoesOn, client_of, starts, doing, asked, hears_doing, hears, next_ask, begun_in}
use Rattle.next_rules.specs.Contents.{Shard, Roster, opening_shard, debt_key, entry_by}
use Rattle.next_rules.specs.Desks.{serve_roster}
use Rattle.next_rules.specs.Setups.{AreCounts}
use Rattle.next_rules.specs.Worlds.{World, Turn, Setup, step_number, turn_asking, turn, run_of, opening, played}
use Rattle.next_laws_told.specs.Claims.{begun_claim}
use Rattle.next_laws_told.specs.Ledgers.{TurnTold, IsRight}
use Rattle.next_laws_stages.specs.Stages.{Marked}
use Rattle.next_laws_stages.specs.Needs.{MeetsAll}
use Rattle.next_laws_stages.specs.Held.{dir_at}
use Rattle.next_laws_stages.proofs.Effects.{none_some}
use Rattle.next_laws_stages.proofs.Openings.{opening_stage, at_root, elsewhere, root_known, opening_places, opening_free}
use Rattle.next_laws_stages.proofs.OpeningTree.{opening_tree}
use Rattle.next_laws_stages.proofs.Stages.{same_or_not}
use Rattle.next_laws_calls.specs.Plain.{IsPlain, is_client, by_client}
use Rattle.next_laws_calls.specs.Claimed.{claim_of, marked_claim, writing_claim, removing_claim, ledger}
use Rattle.next_laws_calls.specs.Holding.{needs, IsPlainIn}
use Rattle.next_laws_calls.specs.Worlds.{Seen, IsRemoving, Holds, Past}
use Rattle.next_laws_calls.proofs.Changing.{quiet, same_leads}
use Rattle.next_laws_calls.proofs.Frame.{Keeps, Stepped, Next, start_holds, idle_first, stepped_next, goes_current}
use Rattle.next_laws_calls.proofs.Grown.{seen_grown}
use Rattle.next_laws_calls.proofs.Turns.{phase_next}

-- ---- a turn
pub record TurnNext (w w' : World) : Type 0 where
  pub holds : Holds w'
  pub past : Past w'
  pub told : TurnTold ledger w w'

by_step : (w w' : World) → Next w w' → TurnNext w w'
by_step w w' n = record { holds = n.holds; past = n.past; told = inr n.told }

module _ (counts : Counts) (good : AreCounts counts) (w : World) (h : Holds w) (past : Past w) (c moment : ℕ) where
  abbrev p : Progress
  p = w.actors.clients c

  -- a step of the client at the roster, by which it stops or ends: it leaves its call as it is
  module _ (place : PlaceNo) (number : ℕ) (a : Ask) (ans : Answer) (r : Roster) (later : w.lasts place.0 < number) where
    abbrev entry : Entry
    entry = record { actor = ClientActor (client_of c); number = number; moment = moment; ask = a; answer = ans; moved = None }

    abbrev at : Stamp
    at = stamp_of place entry

    abbrev after : Progress
    after = record p { ended = true; last = number }

    abbrev keeps_left : Keeps w h c at (record w.service { roster = r }) None
    keeps_left = record {
      stage = h.stage;
      places = (quiet w h c at later).places;
      free = h.free;
      rows = λ k row e. inl e;
      knows = λ y k. k;
      needs = λ i d ns m. m;
      marks = λ y note e. inl e;
      to = refl;
      may = tt;
      helps = (quiet w h c at later).helps;
    }

    pub leaves : Stepped w h c place entry (record w.service { roster = r }) after
    leaves =
        let old = h.clients c in
        record {
          keeps = keeps_left;
          client = record { plain = old.plain; needs = old.needs; seen = seen_grown w.lasts w.run place entry h.run_old later w.service.shard w.service.shard (λ k row e. inl e) p.current old.seen; follows = old.follows };
          works = λ y note e own. subst (λ j. IsRemoving j note (w.actors.clients j).current) (ap (λ (x : Client). x.0) own) (h.works y note e);
          told = record { from = ledger w c; starts = inl refl; goes = inl (refl, same_leads c at ((place, entry) ∷ w.run) None (ledger w c) (ledger w c) refl tt) };
        }

  -- the client has ended: it makes no step
  by_doing : (d : Doing) → doing (w.actors.clients c) ≡ d → TurnNext w (turn_asking counts w (ClientActor (client_of c)) moment (asked counts (client_of c) moment (w.actors.clients c) d))
  by_doing Nothing e = record { holds = h; past = past; told = inl refl }
  by_doing Stops e =
      let number = step_number w (ClientActor (client_of c)) (ask.Stop (client_of c)) in
      let s = serve_roster w.service.roster (ask.Stop (client_of c)) in
      let later : w.lasts 129 < step_number w (ClientActor (client_of c)) (ask.Stop (client_of c)) = omega arith in
      by_step w _ (stepped_next w h past c roster (entry_by (ClientActor (client_of c)) number moment (ask.Stop (client_of c)) s) later (record w.service { roster = s.contents })
      (hears (w.actors.clients c) roster (entry_by (ClientActor (client_of c)) number moment (ask.Stop (client_of c)) s))
      (subst (Stepped w h c roster (entry_by (ClientActor (client_of c)) number moment (ask.Stop (client_of c)) s) (record w.service { roster = s.contents }))
      (sym (ap (hears_doing (w.actors.clients c) roster (entry_by (ClientActor (client_of c)) number moment (ask.Stop (client_of c)) s)) e))
      (leaves roster number (ask.Stop (client_of c)) s.answer s.contents later)))
  by_doing Leaves e =
      let number = step_number w (ClientActor (client_of c)) (ask.End (client_of c)) in
      let s = serve_roster w.service.roster (ask.End (client_of c)) in
      let later : w.lasts 129 < step_number w (ClientActor (client_of c)) (ask.End (client_of c)) = omega arith in
      by_step w _ (stepped_next w h past c roster (entry_by (ClientActor (client_of c)) number moment (ask.End (client_of c)) s) later (record w.service { roster = s.contents })
      (hears (w.actors.clients c) roster (entry_by (ClientActor (client_of c)) number moment (ask.End (client_of c)) s))
      (subst (Stepped w h c roster (entry_by (ClientActor (client_of c)) number moment (ask.End (client_of c)) s) (record w.service { roster = s.contents }))
      (sym (ap (hears_doing (w.actors.clients c) roster (entry_by (ClientActor (client_of c)) number moment (ask.End (client_of c)) s)) e))
      (leaves roster number (ask.End (client_of c)) s.answer s.contents later)))
  by_doing (GoesOn phase) e =
      let is = goes_current (w.actors.clients c) phase e in
      let old = h.clients c in
      by_step w _ (phase_next counts good w h past c moment phase e is (subst IsPlainIn is old.plain) (subst (λ o. MeetsAll c h.stage (needs c o)) is old.needs) (subst (Seen w.run w.lasts w.service.shard) is old.seen))

  pub client_next : TurnNext w (turn_asking counts w (ClientActor (client_of c)) moment (next_ask counts w.actors moment (ClientActor (client_of c))))
  client_next = by_doing (doing (w.actors.clients c)) refl

actor_next : (counts : Counts) → AreCounts counts → (w : World) → Holds w → Past w → (moment : ℕ) (actor : Actor) → is_client actor ≡ true → TurnNext w (turn_asking counts w actor moment (next_ask counts w.actors moment actor))
actor_next counts good w h past moment (ClientActor client) is = client_next counts good w h past client.0 moment
actor_next counts good w h past moment Renamer is = absurd (cc)
actor_next counts good w h past moment Collector is = absurd (cc)

pub turn_next : (counts : Counts) → AreCounts counts → (w : World) → Holds w → Past w → (t : Turn) → by_client t ≡ true → TurnNext w (turn counts w t)
turn_next counts good w h past t is = actor_next counts good w h past t.moment t.actor is

-- ---- all turns
pub record RunHolds (w : World) : Type 0 where
  pub holds : Holds w
  pub past : Past w

first_passes : (a b : Bool) → (a && b) ≡ true → a ≡ true
first_passes true b e = refl
first_passes false b e = e

others_pass : (a b : Bool) → (a && b) ≡ true → b ≡ true
others_pass true b e = e
others_pass false b e = absurd (cc)

run_keeps : (counts : Counts) → AreCounts counts → (turns : List Turn) → list_all by_client turns ≡ true → (w : World) → Holds w → Past w → RunHolds (run_of counts turns w)
run_keeps counts good [] all w h past = record { holds = h; past = past }
run_keeps counts good (t ∷ turns) all w h past =
    let next = turn_next counts good w h past t (first_passes (by_client t) (list_all by_client turns) all) in
    run_keeps counts good turns (others_pass (by_client t) (list_all by_client turns) all) (turn counts w t) next.holds next.past

-- ---- the opening
no_mark_yet : (x : Node) (note : MarkNote) → opening_stage x ≡ Marked note → ⊥
no_mark_yet x note e = elim (same_or_not x (dir_at 0)) [
  | inl same ↦ (let root = sym at_root ∙ ap opening_stage (sym same) ∙ e in cc)
  | inr other ↦ (let unborn = sym (elsewhere x other) ∙ e in cc)
]

pub opening_holds : (setup : Setup) → IsPlain setup → RunHolds (opening setup)
opening_holds setup plain = record {
  holds = record {
    stage = opening_stage;
    places = opening_places;
    free = opening_free;
    rows_old = λ k row e. absurd (none_some _ row (get-empty {X = Row} (slice_cmp nat_cmp) k) e);
    run_old = λ s there. absurd (cc);
    clients = λ i. start_holds [] (λ place. 0) opening_shard opening_stage i (dir_at 0 ∷ []) root_known (setup.plans i) (plain.good.plans i) (plain.plans i) (starts (setup.plans i) (setup.stops i)) refl refl;
    works = λ x note e. absurd (no_mark_yet x note e);
  };
  past = record { same = opening_tree; allowed = tt };
}

pub played_holds : (setup : Setup) → IsPlain setup → (turns : List Turn) → list_all by_client turns ≡ true → RunHolds (played setup turns)
played_holds setup plain turns all =
    let first = opening_holds setup plain in run_keeps setup.counts plain.good.counts turns all (opening setup) first.holds first.past

-- ---- the ledger
begun_marked : (o : Option Debt) (call : Call) (first : Stamp) (ts : Ts) → begun_claim (marked_claim o call first ts) ≡ Some (call, first)
begun_marked None call first ts = refl
begun_marked (Some debt) call first ts = refl

begun_same : (shard : Shard) (o : Option Phase) → begun_claim (claim_of shard o) ≡ begun_in o
begun_same shard None = refl
begun_same shard (Some (Asking call)) = refl
begun_same shard (Some (Reads q)) = refl
begun_same shard (Some (Writes q)) = by_writing q
  where
    by_writing : (q : WriterPhase) → begun_claim (writing_claim q) ≡ Some (begun_writing q)
    by_writing (Inserting dir name node ts first) = refl
    by_writing (Settling dir name node ts first made) = refl
    by_writing (MakeHelping dir name node note first) = refl
    by_writing (TakingBack dir name node reply point first) = refl
    by_writing (Dropping call file ts first made) = refl
    by_writing (Clearing call file ts first made) = refl
    by_writing (Submitting dir name to_dir to_name ts first) = refl
    by_writing (Collecting dir name to_dir to_name job ts first) = refl
begun_same shard (Some (Removes q)) = by_removing q
  where
    by_removing : (q : RemoverPhase) → begun_claim (removing_claim shard q) ≡ Some (begun_removing q)
    by_removing (RowReading dir name ts first) = refl
    by_removing (Marking dir name child ts first) = refl
    by_removing (MarkHelping dir name note ts first) = refl
    by_removing (Removing dir name child ts first) = begun_marked (get shard.debts (debt_key (shard_of dir) (Dir child))) (Rmdir dir name) first ts
    by_removing (RecDropping dir name child ts first made) = refl
    by_removing (RecClearing dir name child ts first made) = refl
begun_same shard (Some (Finished done)) = refl

pub right_ledger : (setup : Setup) → IsPlain setup → IsRight setup by_client ledger
right_ledger setup plain = record {
  opening = λ c. idle_first opening_shard (setup.plans c);
  begun = λ turns all c. begun_same (played setup turns).service.shard ((played setup turns).actors.clients c).current;
  told = λ turns all t is. let before = played_holds setup plain turns all in (turn_next setup.counts plain.good.counts (played setup turns) before.holds before.past t is).told;
}
