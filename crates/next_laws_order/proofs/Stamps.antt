-- Positions by stamps, and what one more step leaves of them.
use Rattle.std.proofs.Common.{◌≡◌, ℕ, suc, ◌≤◌, ◌<◌, List, [], ◌∷◌, length, Bool, true, false, refl, ap, arith}
use Rattle.std.proofs.Math.Bool.{or-true}
use Rattle.std.specs.Prelude.{if◌then◌else◌, ◌||◌, ◌&&◌, ◌==◌}
use Rattle.std.specs.List.{list_any}
use Rattle.std.proofs.lemmas.Bool.Decides.{nat_tests}
use Rattle.next_ids.specs.declared.ids.Stamp.{Stamp}
use Rattle.next_ids.specs.declared.ids.PlaceNo.{PlaceNo}
use Rattle.next_steps.specs.declared.entry.Entry.{Entry}
use Rattle.next_rules.specs.Histories.{is_at, position_of}
use Rattle.next_rules.specs.Worlds.{set_last}

-- whether a step has the stamp
abbrev pub stands : Stamp → List (PlaceNo × Entry) → Bool
stands s run = list_any (is_at s) run

-- the step has no stamp of the run
abbrev pub IsFresh : List (PlaceNo × Entry) → PlaceNo × Entry → Type 0
IsFresh run e = (s : Stamp) → stands s run ≡ true → is_at s e ≡ false

pub position-within : (s : Stamp) (run : List (PlaceNo × Entry)) → stands s run ≡ true → position_of s run < length run
position-within s [] h = cc
position-within s (e ∷ run) h = step (is_at s e) h (position-within s run)
  where
    step : (b : Bool) → (b || stands s run) ≡ true → (stands s run ≡ true → position_of s run < length run) → (if b then length run else position_of s run) < suc (length run)
    step true h rest = omega arith
    step false h rest = omega (arith, rest h)

pub position-grown : (s : Stamp) (run : List (PlaceNo × Entry)) (e : PlaceNo × Entry) → IsFresh run e → stands s run ≡ true → position_of s (e ∷ run) ≡ position_of s run
position-grown s run e fresh h = rw (fresh s h) refl

pub stands-grown : (s : Stamp) (run : List (PlaceNo × Entry)) (e : PlaceNo × Entry) → stands s run ≡ true → stands s (e ∷ run) ≡ true
stands-grown s run e h = rw h (or-true (is_at s e))

pub position-new : (s : Stamp) (run : List (PlaceNo × Entry)) (e : PlaceNo × Entry) → is_at s e ≡ true → position_of s (e ∷ run) ≡ length run
position-new s run e h = rw h refl

pub stands-new : (s : Stamp) (run : List (PlaceNo × Entry)) (e : PlaceNo × Entry) → is_at s e ≡ true → stands s (e ∷ run) ≡ true
stands-new s run e h = rw h refl

-- ---- numbers
-- no stamp of the run is above the last number of its place
abbrev pub IsLow : (ℕ → ℕ) → List (PlaceNo × Entry) → Type 0
IsLow last run = (s : Stamp) → stands s run ≡ true → s.number ≤ last s.place.0

pub fresh_step : (last : ℕ → ℕ) (run : List (PlaceNo × Entry)) (e : PlaceNo × Entry) → IsLow last run → last e.0.0 < e.1.number → IsFresh run e
fresh_step last run e low new s there = by_test (e.1.number == s.number) refl (e.0.0 == s.place.0) refl
  where
    by_test : (a : Bool) → (e.1.number == s.number) ≡ a → (b : Bool) → (e.0.0 == s.place.0) ≡ b → (a && b) ≡ false
    by_test true t true u =
        let number : e.1.number ≡ s.number = grind (arith, nat_tests) in
        let place : e.0.0 ≡ s.place.0 = grind (arith, nat_tests) in
        absurd (omega (arith, low s there, ap last place))
    by_test true t false u = refl
    by_test false t b u = refl

pub low_step : (last last' : ℕ → ℕ) (run : List (PlaceNo × Entry)) (e : PlaceNo × Entry) → IsLow last run → ((p : ℕ) → last p ≤ last' p) → e.1.number ≤ last' e.0.0 → IsLow last' (e ∷ run)
low_step last last' run e low more le s there = by_test (e.1.number == s.number) refl (e.0.0 == s.place.0) refl there
  where
    by_test : (a : Bool) → (e.1.number == s.number) ≡ a → (b : Bool) → (e.0.0 == s.place.0) ≡ b → ((a && b) || stands s run) ≡ true → s.number ≤ last' s.place.0
    by_test true t true u there =
        let number : e.1.number ≡ s.number = grind (arith, nat_tests) in
        let place : e.0.0 ≡ s.place.0 = grind (arith, nat_tests) in
        omega (arith, ap last' place)
    by_test true t false u there = omega (arith, low s there, more s.place.0)
    by_test false t b u there = omega (arith, low s there, more s.place.0)

-- the place's last number becomes that of its step
pub low_set : (last : ℕ → ℕ) (run : List (PlaceNo × Entry)) (place : PlaceNo) (entry : Entry) → IsLow last run → last place.0 < entry.number → IsLow (set_last last place.0 entry.number) ((place, entry) ∷ run)
low_set last run place entry low new = low_step last (set_last last place.0 entry.number) run (place, entry) low raised at_least
  where
    raised : (p : ℕ) → last p ≤ set_last last place.0 entry.number p
    raised p = by_test (p == place.0) refl
      where
        by_test : (b : Bool) → (p == place.0) ≡ b → last p ≤ (if b then entry.number else last p)
        by_test true t = let same : p ≡ place.0 = grind (arith, nat_tests) in omega (arith, ap last same)
        by_test false t = omega arith

    at_least : entry.number ≤ set_last last place.0 entry.number place.0
    at_least = let same : (place.0 == place.0) ≡ true = grind (arith, nat_tests) in rw same (omega arith)
