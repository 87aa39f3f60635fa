use Rattle.std.proofs.Common.{◌≡◌, length}
use Rattle.std.specs.Ordering.{nat_cmp}
use Rattle.std.specs.FinMap as map
use Rattle.next_maps.specs.Walks.{entries_after}
use Rattle.next_table.specs.Flat.{flattened}
use Rattle.next_table.proofs.walk.first_in.Given as goal

-- the directories passed have no entry
abbrev pub invariant-loop-dir : goal.invariant-loop-dir
invariant-loop-dir g l =
    flattened (entries_after nat_cmp l.at (map.entries l.maps)) ≡ flattened (entries_after nat_cmp l.fn.after (map.entries l.maps))

abbrev pub decreases-loop-dir : goal.decreases-loop-dir
decreases-loop-dir g l = length (entries_after nat_cmp l.at (map.entries l.maps))
