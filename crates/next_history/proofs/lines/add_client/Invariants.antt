use Rattle.std.proofs.Common.{◌≡◌, ◌++◌, map, take}
use Rattle.next_rules.specs.Histories.{line_of}
use Rattle.next_history.specs.Indexed.{run_of}
use Rattle.next_history.proofs.lines.add_client.Given as goal

abbrev pub invariant-loop-done : goal.invariant-loop-done
invariant-loop-done l = l.lines.items ≡ l.initial.lines.items ++ map (line_of (run_of l.index) l.calls.client) (take l.done-index l.calls.done)
