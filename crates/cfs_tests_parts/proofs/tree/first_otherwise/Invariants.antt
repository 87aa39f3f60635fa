use Rattle.cfs_ids.specs.Namespace.{IsWhole}
use Rattle.cfs_tests_parts.proofs.tree.first_otherwise.Given as goal

abbrev pub invariant-loop-i : goal.invariant-loop-i
invariant-loop-i l = IsWhole l.namespace
