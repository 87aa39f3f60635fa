-- What a further step leaves of facts of the past.
use Rattle.std.proofs.Common.{◌≡◌, ◌≢◌, ℕ, ◌<◌, ◌≤◌, List, [], ◌∷◌, length, Bool, true, false, refl, sym, ◌∙◌, ap, subst, arith, ◌⊎◌, inl, inr}
use Rattle.std.specs.Prelude.{if◌then◌else◌, ◌==◌, Option, Some, None}
use Rattle.std.proofs.lemmas.Bool.Decides.{nat_tests}
use Rattle.std.specs.FinMap.{get}
use Rattle.next_ids.specs.declared.ids.At.{At}
use Rattle.next_ids.specs.declared.ids.At.TheVariants.{Before, After}
use Rattle.next_ids.specs.declared.ids.DirId.{DirId}
use Rattle.next_ids.specs.declared.ids.FileId.{FileId}
use Rattle.next_ids.specs.declared.ids.PlaceNo.{PlaceNo}
use Rattle.next_ids.specs.declared.ids.Stamp.{Stamp}
use Rattle.next_ids.specs.declared.time.Ts.{Ts}
use Rattle.next_ids.specs.declared.call.Call.{Call}
use Rattle.next_ids.specs.declared.call.Reply.{Reply}
use Rattle.next_ids.specs.declared.call.Reply.TheVariants.{Moved as MovedReply}
use Rattle.next_ids.specs.Maps.{row_key}
use Rattle.next_steps.specs.declared.contents.Row.{Row}
use Rattle.next_steps.specs.declared.entry.Entry.{Entry}
use Rattle.next_steps.specs.Ends.{stamp_of}
use Rattle.next_steps.specs.Phases.{Phase, Asking, Reads, Writes, Removes, Finished, ReaderPhase, StatGetting, StatChecking}
use Rattle.next_steps.specs.Readers.{begun_reading}
use Rattle.next_rules.specs.Contents.{Shard}
use Rattle.next_rules.specs.Histories.{is_at, position_of, point_of}
use Rattle.next_rules.specs.Laws.{space_at}
use Rattle.next_rules.specs.Moves.{space, after_moved}
use Rattle.next_rules.specs.Worlds.{set_last}
use Rattle.next_laws_order.proofs.Stamps.{IsFresh, stands-grown, position-new, stands-new, fresh_step, low_set}
use Rattle.next_laws_told.specs.Claims.{IsReplyIn, IsTold, stands, stamp_at}
use Rattle.next_laws_told.proofs.Pasts.{order-grown, reply-grown}
use Rattle.next_laws_told.proofs.Runs.{space_at-now, space_at-before}
use Rattle.next_laws_calls.specs.Worlds.{IsStill, IsOld, GotHolds, SeenIn, Seen}

-- no step stands after all of them
pub position_low : (s : Stamp) (run : List (PlaceNo × Entry)) → position_of s run ≤ length run
position_low s [] = omega arith
position_low s (e ∷ run) = by_test (is_at s e) (position_low s run)
  where
    by_test : (b : Bool) → position_of s run ≤ length run → (if b then length run else position_of s run) ≤ length (e ∷ run)
    by_test true h = omega arith
    by_test false h = omega arith

-- a later number of one place
pub raise_up : (lasts : ℕ → ℕ) (place number : ℕ) → lasts place < number → (p : ℕ) → lasts p ≤ set_last lasts place number p
raise_up lasts place number later p = by_test (p == place) refl
  where
    by_test : (b : Bool) → (p == place) ≡ b → lasts p ≤ (if b then number else lasts p)
    by_test true t = let same : p ≡ place = grind (arith, nat_tests) in omega (arith, ap lasts same)
    by_test false t = omega arith

pub raise_here : (lasts : ℕ → ℕ) (place number : ℕ) → set_last lasts place number place ≡ number
raise_here lasts place number = let same : (place == place) ≡ true = grind (arith, nat_tests) in rw same refl

module _ (lasts : ℕ → ℕ) (run : List (PlaceNo × Entry)) (place : PlaceNo) (entry : Entry) (low : (s : Stamp) → stands s run ≡ true → IsOld lasts s) (later : lasts place.0 < entry.number) where
  abbrev pub grown : List (PlaceNo × Entry)
  grown = (place, entry) ∷ run

  abbrev pub raised : ℕ → ℕ
  raised = set_last lasts place.0 entry.number

  abbrev pub now : Stamp
  now = stamp_of place entry

  pub fresh : IsFresh run (place, entry)
  fresh = fresh_step lasts run (place, entry) low later

  up : (p : ℕ) → lasts p ≤ raised p
  up = raise_up lasts place.0 entry.number later

  raised_here : raised place.0 ≡ entry.number
  raised_here = raise_here lasts place.0 entry.number

  pub is_now : is_at now (place, entry) ≡ true
  is_now = grind (arith, nat_tests)

  pub old_grown : (s : Stamp) → IsOld lasts s → IsOld raised s
  old_grown s h = let more = up s.place.0 in omega arith

  pub now_old : IsOld raised now
  now_old = let here = raised_here in omega arith

  pub low_grown : (s : Stamp) → stands s grown ≡ true → IsOld raised s
  low_grown = low_set lasts run place entry low later

  pub first_stands : (s : Stamp) → stands s run ≡ true → stands s grown ≡ true
  first_stands s h = stands-grown s run (place, entry) h

  pub now_stands : stands now grown ≡ true
  now_stands = stands-new now run (place, entry) is_now

  -- ---- replies
  pub told_grown : (call : Call) (first : Stamp) (at : At) (reply : Reply) → stands first run ≡ true → IsTold run call first at reply → IsTold grown call first at reply
  told_grown call first at reply begun h = record {
    there = stands-grown (stamp_at at) run (place, entry) h.there;
    order = order-grown run (place, entry) fresh first (stamp_at at) begun h.there h.order;
    right = reply-grown run (place, entry) fresh call at reply h.there h.right;
    kind = h.kind;
  }

  now_last : position_of now grown ≡ length run
  now_last = position-new now run (place, entry) is_now

  before_now : (first : Stamp) → position_of first grown ≤ position_of now grown
  before_now first = by_test (is_at first (place, entry)) (let here = now_last in let low = position_low first run in omega arith)
    where
      by_test : (b : Bool) → position_of first run ≤ position_of now grown → (if b then length run else position_of first run) ≤ position_of now grown
      by_test true h = let here = now_last in omega arith
      by_test false h = h

  -- a reply that is right before the step
  pub told_now : (call : Call) (first : Stamp) (reply : Reply) → IsReplyIn (space run) call reply → reply ≢ MovedReply → IsTold grown call first (Before now) reply
  told_now call first reply right kind = record {
    there = now_stands;
    order = before_now first;
    right = subst (λ n. IsReplyIn n call reply) (sym (ap (space_at grown) now_last ∙ space_at-before (place, entry) run (length run) (omega arith) ∙ space_at-now run)) right;
    kind = kind;
  }

  after_last : point_of (After now) grown ≡ length grown
  after_last = let last = now_last in omega arith

  -- and one that is right after it
  pub told_after : (call : Call) (first : Stamp) (reply : Reply) → IsReplyIn (after_moved (space run) entry.moved) call reply → reply ≢ MovedReply → IsTold grown call first (After now) reply
  told_after call first reply right kind = record {
    there = now_stands;
    order = before_now first;
    right = subst (λ n. IsReplyIn n call reply) (sym (ap (space_at grown) after_last ∙ space_at-now grown)) right;
    kind = kind;
  }

  -- ---- what a stat of a file has seen, where each row is an old one or the step's
  module _ (shard shard' : Shard) (rows : (k : List ℕ) (row : Row) → get shard'.rows k ≡ Some row → (get shard.rows k ≡ Some row) ⊎ (row.stamp ≡ now)) where
    still_was : (dir : DirId) (name : List ℕ) (file : FileId) (row : Stamp) → IsOld lasts row → IsStill shard' dir name file row → IsStill shard dir name file row
    still_was dir name file row old h = elim (rows (row_key dir name) _ h) [
      | inl was ↦ was
      | inr new ↦ (let number : row.number ≡ entry.number = ap (λ (s : Stamp). s.number) new in
          let at : lasts row.place.0 ≡ lasts place.0 = ap (λ (s : Stamp). lasts s.place.0) new in absurd (omega arith))
    ]

    got_grown : (dir : DirId) (name : List ℕ) (file : FileId) (row : Stamp) (found : Option (ℕ × Ts)) (got first : Stamp) → IsOld lasts row → stands first run ≡ true → GotHolds run shard dir name file row found got first
        → GotHolds grown shard' dir name file row found got first
    got_grown dir name file row None got first old begun h = tt
    got_grown dir name file row (Some found) got first old begun h = λ still. told_grown _ first (Before got) _ begun (h (still_was dir name file row old still))

    seen_in : (phase : ReaderPhase) → stands (begun_reading phase).1 run ≡ true → SeenIn run lasts shard phase → SeenIn grown raised shard' phase
    seen_in (StatGetting dir name file row first) begun h = old_grown row h
    seen_in (StatChecking dir name file row found got first) begun h = (old_grown row h.0, got_grown dir name file row found got first h.0 begun h.1)
    seen_in phase begun h = tt

    pub seen_grown : (current : Option Phase) → Seen run lasts shard current → Seen grown raised shard' current
    seen_grown None h = tt
    seen_grown (Some (Asking call)) h = tt
    seen_grown (Some (Reads phase)) h = (first_stands (begun_reading phase).1 h.0, seen_in phase h.0 h.1)
    seen_grown (Some (Writes phase)) h = tt
    seen_grown (Some (Removes phase)) h = tt
    seen_grown (Some (Finished done)) h = tt
