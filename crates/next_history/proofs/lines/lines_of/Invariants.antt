use Rattle.std.proofs.Common.{◌≡◌, take}
use Rattle.next_rules.specs.Histories.{lines_of}
use Rattle.next_history.specs.Indexed.{run_of}
use Rattle.next_history.specs.Sorted.{calls_in}
use Rattle.next_history.proofs.lines.lines_of.Given as goal

abbrev pub invariant-loop-client : goal.invariant-loop-client
invariant-loop-client l = l.lines.items ≡ lines_of (run_of l.index) (calls_in (take l.client-index l.calls))
