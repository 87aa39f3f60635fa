-- The namespaces of the past, and the moves by position: what one more step leaves of them.
use Rattle.std.proofs.Common.{◌≡◌, ◌≢◌, ℕ, ◌+◌, ◌≤◌, List, [], ◌∷◌, length, Bool, true, false, refl, ◌∙◌, ap, arith}
use Rattle.std.specs.Prelude.{if◌then◌else◌, ◌==◌, nat_le, Option, Some, None}
use Rattle.std.proofs.lemmas.Bool.Decides.{nat_tests}
use Rattle.next_ids.specs.declared.ids.At.{At}
use Rattle.next_ids.specs.declared.ids.At.TheVariants.{Step, Before, After}
use Rattle.next_ids.specs.declared.ids.Client.{Client}
use Rattle.next_ids.specs.declared.ids.Node.{Node}
use Rattle.next_ids.specs.declared.ids.PlaceNo.{PlaceNo}
use Rattle.next_ids.specs.declared.time.Ts.{Ts}
use Rattle.next_ids.specs.declared.call.Call.{Call}
use Rattle.next_steps.specs.declared.entry.Entry.{Entry}
use Rattle.next_steps.specs.declared.moves.Moved.{Moved}
use Rattle.next_rules.specs.Histories.{point_of, own_move, or_later, move_from, forgets, forgotten_at}
use Rattle.next_rules.specs.Laws.{space_at}
use Rattle.next_rules.specs.Moves.{space}
use Rattle.next_laws_order.proofs.Stamps.{stands, IsFresh, position-within, position-grown}
use Rattle.next_laws_told.specs.Claims.{stamp_at}

-- ---- the namespaces of the past
pub space_at-now : (run : List (PlaceNo × Entry)) → space_at run (length run) ≡ space run
space_at-now [] = refl
space_at-now (e ∷ run) = grind (arith, nat_tests)

pub space_at-before : (e : PlaceNo × Entry) (run : List (PlaceNo × Entry)) (p : ℕ) → p ≤ length run → space_at (e ∷ run) p ≡ space_at run p
space_at-before e run p h = grind (arith, nat_tests)

-- ---- points
pub point-within : (at : At) (run : List (PlaceNo × Entry)) → stands (stamp_at at) run ≡ true → point_of at run ≤ length run
point-within (Step s) run h = let lt = position-within s run h in omega arith
point-within (Before s) run h = let lt = position-within s run h in omega arith
point-within (After s) run h = let lt = position-within s run h in omega arith

pub point-grown : (run : List (PlaceNo × Entry)) (e : PlaceNo × Entry) → IsFresh run e → (at : At) → stands (stamp_at at) run ≡ true → point_of at (e ∷ run) ≡ point_of at run
point-grown run e fresh (Step s) h = position-grown s run e fresh h
point-grown run e fresh (Before s) h = position-grown s run e fresh h
point-grown run e fresh (After s) h = ap (λ p. p + 1) (position-grown s run e fresh h)

-- ---- the moves
-- what the step at a position moved
abbrev pub moved_in : List (PlaceNo × Entry) → ℕ → Option Moved
moved_in [] p = None
moved_in (e ∷ older) p = if p == length older then e.1.moved else moved_in older p

pub moved_in-now : (e : PlaceNo × Entry) (run : List (PlaceNo × Entry)) → moved_in (e ∷ run) (length run) ≡ e.1.moved
moved_in-now e run = grind (arith, nat_tests)

pub moved_in-other : (e : PlaceNo × Entry) (run : List (PlaceNo × Entry)) (p : ℕ) → p ≢ length run → moved_in (e ∷ run) p ≡ moved_in run p
moved_in-other e run p h = grind (arith, nat_tests)

pub moved_in-beyond : (run : List (PlaceNo × Entry)) (p : ℕ) → length run ≤ p → moved_in run p ≡ None
moved_in-beyond [] p h = refl
moved_in-beyond (e ∷ run) p h = moved_in-other e run p (λ same. omega (arith, same)) ∙ moved_in-beyond run p (omega arith)

-- the forgotten files of a position are what its step forgot
pub forgotten-is : (run : List (PlaceNo × Entry)) (p : ℕ) → forgotten_at p run ≡ forgets p (moved_in run p)
forgotten-is [] p = refl
forgotten-is (e ∷ run) p = by_test (length run == p) refl (p == length run) refl (forgotten-is run p)
  where
    by_test : (a : Bool) → (length run == p) ≡ a → (b : Bool) → (p == length run) ≡ b → forgotten_at p run ≡ forgets p (moved_in run p)
        → (if a then forgets p e.1.moved else forgotten_at p run) ≡ forgets p (if b then e.1.moved else moved_in run p)
    by_test true t true u rest = refl
    by_test true t false u rest = absurd (grind (arith, nat_tests))
    by_test false t true u rest = absurd (grind (arith, nat_tests))
    by_test false t false u rest = rest

-- ---- the moves of a call
own_move-if : (b : Bool) (o : Option (ℕ × Ts × Option Node)) → o ≡ None → (if b then o else None) ≡ None
own_move-if true o h = h
own_move-if false o h = refl

or_later-none : (o : Option (ℕ × Ts × Option Node)) → or_later o None ≡ o
or_later-none None = refl
or_later-none (Some found) = refl

-- a step that is no move of the call
pub move_from-grown : (c : Client) (call : Call) (first : ℕ) (e : PlaceNo × Entry) (run : List (PlaceNo × Entry)) → own_move c call (length run) e.1.moved ≡ None → move_from c call first (e ∷ run) ≡ move_from c call first run
move_from-grown c call first e run h = ap (or_later (move_from c call first run)) (own_move-if (nat_le first (length run)) _ h) ∙ or_later-none (move_from c call first run)

-- its first move from a position on
pub move_from-now : (c : Client) (call : Call) (first : ℕ) (e : PlaceNo × Entry) (run : List (PlaceNo × Entry)) → first ≤ length run → move_from c call first run ≡ None → move_from c call first (e ∷ run) ≡ own_move c call (length run) e.1.moved
move_from-now c call first e run le none = rw none (grind (arith, nat_tests))

pub move_from-beyond : (c : Client) (call : Call) (first : ℕ) (run : List (PlaceNo × Entry)) → length run ≤ first → move_from c call first run ≡ None
move_from-beyond c call first [] h = refl
move_from-beyond c call first (e ∷ run) h = rw (move_from-beyond c call first run (omega arith)) (grind (arith, nat_tests))
