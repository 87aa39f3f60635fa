-- What a step more does to the positions.
use Rattle.std.proofs.Common.{◌≡◌, ◌≤◌, ◌-◌, suc, Bool, true, false, if◌then◌else◌, List, [], ◌∷◌, length, refl, arith, Ordering}
use Rattle.std.specs.Option.{unwrap_or}
use Rattle.next_ids.specs.contracts.ids.StampOrd.TheImpl.{ghosts}
use Rattle.next_ids.specs.declared.ids.PlaceNo.{PlaceNo}
use Rattle.next_ids.specs.declared.ids.Stamp.{Stamp}
use Rattle.next_steps.specs.declared.entry.Entry.{Entry}
use Rattle.next_rules.specs.Histories.{is_at, position_of}
use Rattle.next_history.specs.Indexes.{place_in}

-- the order of stamps
abbrev pub stamp_cmp : Stamp → Stamp → Ordering
stamp_cmp = ghosts.cmp

-- the position of a stamp
pub place_in-position : (s : Stamp) (run : List (PlaceNo × Entry)) → unwrap_or (place_in s run) 0 ≡ position_of s run
place_in-position s [] = refl
place_in-position s (e ∷ older) = grind (arith, place_in-position s older)

-- a position lies before the end of the run
pub position_of-within : (s : Stamp) (run : List (PlaceNo × Entry)) → position_of s run ≤ length run - 1
position_of-within s [] = omega arith
position_of-within s (e ∷ older) = by_test (is_at s e) (position_of-within s older)
  where
    by_test : (b : Bool) → position_of s older ≤ length older - 1 → (if b then length older else position_of s older) ≤ suc (length older) - 1
    by_test true later = omega arith
    by_test false later = omega arith
