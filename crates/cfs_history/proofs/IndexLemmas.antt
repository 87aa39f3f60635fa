-- What a step more does to the positions.
use Rattle.std.proofs.Common.{◌≡◌, List, [], ◌∷◌, refl, arith, Ordering}
use Rattle.std.specs.Option.{unwrap_or}
use Rattle.cfs_ids.specs.contracts.ids.StampOrd.TheImpl.{ghosts}
use Rattle.cfs_ids.specs.declared.ids.PlaceNo.{PlaceNo}
use Rattle.cfs_ids.specs.declared.ids.Stamp.{Stamp}
use Rattle.cfs_steps.specs.declared.entry.Entry.{Entry}
use Rattle.cfs_rules.specs.Histories.{position_of}
use Rattle.cfs_history.specs.Indexes.{place_in}

-- the order of stamps
abbrev pub stamp_cmp : Stamp → Stamp → Ordering
stamp_cmp = ghosts.cmp

-- the position of a stamp
pub place_in-position : (s : Stamp) (run : List (PlaceNo × Entry)) → unwrap_or (place_in s run) 0 ≡ position_of s run
place_in-position s [] = refl
place_in-position s (e ∷ older) = grind (arith, place_in-position s older)
