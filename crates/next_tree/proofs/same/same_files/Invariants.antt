use Rattle.std.proofs.Common.{◌≡◌}
use Rattle.std.specs.Prelude.{◌↔◌}
use Rattle.std.specs.FinMap.{entries}
use Rattle.next_tree.proofs.same.same_files.Given as goal

abbrev pub invariant-loop-file : goal.invariant-loop-file
invariant-loop-file l = (entries l.files ≡ entries l.others) ↔ (l.file-iterator ≡ l.left)
