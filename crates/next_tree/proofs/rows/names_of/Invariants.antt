use Rattle.std.proofs.Common.{◌≡◌, ◌≤◌, drop, length}
use Rattle.std.specs.FinMap.{from_entries}
use Rattle.next_tree.proofs.rows.names_of.Given as goal

abbrev pub invariant-loop-left : goal.invariant-loop-left
invariant-loop-left l = (l.left ≤ length l.rows) × (l.names ≡ from_entries (drop l.left l.rows))

abbrev pub decreases-loop-left : goal.decreases-loop-left
decreases-loop-left l = l.left
