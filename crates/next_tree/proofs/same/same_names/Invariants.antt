use Rattle.std.proofs.Common.{◌≡◌}
use Rattle.std.specs.Prelude.{◌↔◌}
use Rattle.std.specs.FinMap.{entries}
use Rattle.next_tree.proofs.same.same_names.Given as goal

abbrev pub invariant-loop-name : goal.invariant-loop-name
invariant-loop-name l = (entries l.names ≡ entries l.others) ↔ (l.name-iterator ≡ l.left)
