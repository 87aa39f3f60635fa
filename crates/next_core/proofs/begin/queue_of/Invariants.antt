use Rattle.std.proofs.Common.{◌≡◌, take}
use Rattle.next_core.proofs.begin.queue_of.Given as goal

abbrev pub invariant-loop-command : goal.invariant-loop-command
invariant-loop-command l = l.queue ≡ take l.command-index l.commands
