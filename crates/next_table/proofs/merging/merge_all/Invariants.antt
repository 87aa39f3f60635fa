use Rattle.std.proofs.Common.{length}
use Rattle.std.specs.Ordering.{nat_cmp}
use Rattle.std.specs.FinMap.{entries}
use Rattle.next_maps.specs.Walks.{entries_after}
use Rattle.next_rules.specs.Owning.{merged_at}
use Rattle.next_table.proofs.InTurn.{ChangedTo}
use Rattle.next_table.proofs.merging.merge_all.Given as goal

abbrev pub invariant-loop-dir : goal.invariant-loop-dir
invariant-loop-dir l = ChangedTo (merged_at l.place) l.fn.recs l.at l.recs

abbrev pub decreases-loop-dir : goal.decreases-loop-dir
decreases-loop-dir l = length (entries_after nat_cmp l.at (entries l.recs))
