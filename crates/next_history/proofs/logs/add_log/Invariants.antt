use Rattle.std.proofs.Common.{◌≡◌, ◌++◌, map}
use Rattle.next_history.proofs.logs.add_log.Given as goal

abbrev pub invariant-loop-entry : goal.invariant-loop-entry
invariant-loop-entry l = l.entries.items ≡ l.initial.entries.items ++ map (λ entry. (l.place, entry)) l.yielded
