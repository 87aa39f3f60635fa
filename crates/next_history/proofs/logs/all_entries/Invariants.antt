use Rattle.std.proofs.Common.{◌≡◌}
use Rattle.next_history.specs.Merged.{entries_of}
use Rattle.next_history.proofs.logs.all_entries.Given as goal

abbrev pub invariant-loop-place : goal.invariant-loop-place
invariant-loop-place l = l.entries.items ≡ entries_of l.yielded
