use Rattle.std.proofs.Common.{◌≡◌, ◌++◌, map, take}
use Rattle.cfs_rules.specs.Histories.{line_of}
use Rattle.cfs_history.specs.Indexed.{run_of}
use Rattle.cfs_history.proofs.lines.add_client.Given as goal

abbrev pub invariant-loop-done : goal.invariant-loop-done
invariant-loop-done l = l.lines.items ≡ l.initial.lines.items ++ map (line_of (run_of l.index) l.calls.client) (take l.done-index l.calls.done)
