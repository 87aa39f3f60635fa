use Rattle.std.proofs.Common.{◌≡◌, ◌≤◌, ◌++◌, length, reverse, take}
use Rattle.next_places.specs.Views.{held}
use Rattle.next_core.specs.Ends.{logs_left, IsWithin}
use Rattle.next_core.specs.Weave.{woven}
use Rattle.next_core.proofs.finish.entries_of.Given as goal

abbrev pub invariant-loop-at : goal.invariant-loop-at
invariant-loop-at l = record {
  bound : l.at ≤ length l.order;
  within : IsWithin l.left l.places;
  so_far : woven (reverse l.order) (held l.places).logs ≡ l.entries ++ woven (reverse (take l.at l.order)) (logs_left l.left l.places);
}

abbrev pub decreases-loop-at : goal.decreases-loop-at
decreases-loop-at l = l.at
