use Rattle.std.proofs.Common.{◌≡◌, take}
use Rattle.cfs_rules.specs.Histories.{lines_of}
use Rattle.cfs_history.specs.Indexed.{run_of}
use Rattle.cfs_history.proofs.lines.lines_of.Given as goal

abbrev pub invariant-loop-client : goal.invariant-loop-client
invariant-loop-client l = l.lines.items ≡ lines_of (run_of l.index) (take l.client-index l.calls)
