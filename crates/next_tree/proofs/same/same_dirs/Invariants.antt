use Rattle.std.proofs.Common.{◌≡◌}
use Rattle.std.specs.Prelude.{◌↔◌}
use Rattle.std.specs.FinMap.{entries}
use Rattle.next_tree.proofs.same.same_dirs.Given as goal

abbrev pub invariant-loop-dir : goal.invariant-loop-dir
invariant-loop-dir l = (entries l.dirs ≡ entries l.others) ↔ (l.dir-iterator ≡ l.left)
