use Rattle.std.proofs.Common.{◌≡◌}
use Rattle.std.specs.FinMap.{entries}
use Rattle.next_rules.specs.Locks.{first_source}
use Rattle.next_contents.proofs.locks.first_source.Given as goal

abbrev pub invariant-loop-lock : goal.invariant-loop-lock
invariant-loop-lock l = first_source (entries l.names) ≡ first_source l.lock-iterator
