use Rattle.std.proofs.Common.{◌≡◌}
use Rattle.std.specs.FinMap.{entries}
use Rattle.next_rules.specs.Locks.{first_other}
use Rattle.next_contents.proofs.locks.first_other.Given as goal

abbrev pub invariant-loop-lock : goal.invariant-loop-lock
invariant-loop-lock l = first_other l.own (entries l.names) ≡ first_other l.own l.lock-iterator
