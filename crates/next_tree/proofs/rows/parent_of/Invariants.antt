use Rattle.std.proofs.Common.{◌≡◌}
use Rattle.std.specs.FinMap.{entries}
use Rattle.next_tree.specs.Upward.{parent_among}
use Rattle.next_tree.proofs.rows.parent_of.Given as goal

abbrev pub invariant-loop-parent : goal.invariant-loop-parent
invariant-loop-parent l = parent_among l.dir (entries l.dirs) ≡ parent_among l.dir l.parent-iterator
