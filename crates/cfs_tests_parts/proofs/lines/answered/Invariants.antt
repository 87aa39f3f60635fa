use Rattle.std.proofs.Common.{◌≡◌, false}
use Rattle.cfs_tests_parts.proofs.lines.answered.Given as goal

abbrev pub invariant-loop-want : goal.invariant-loop-want
invariant-loop-want g l = l.reader.ended ≡ false
