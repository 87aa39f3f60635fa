use Rattle.std.proofs.Common.{◌≡◌, take}
use Rattle.std.specs.List.{flat_map}
use Rattle.next_print.specs.Passing.{Adds}
use Rattle.next_print.specs.Commands.{command_line}
use Rattle.next_print.proofs.commands.put_commands.Given as goal

abbrev pub invariant-loop-command : goal.invariant-loop-command
invariant-loop-command g l = record {
  written : Adds (g.K.Sink.taken l.fn.sink) l.fn.page.items (g.K.Sink.taken l.sink) l.page.items (flat_map command_line (take l.command-index l.commands));
  same : g.K.Sink.faults l.sink ≡ g.K.Sink.faults l.fn.sink;
}
