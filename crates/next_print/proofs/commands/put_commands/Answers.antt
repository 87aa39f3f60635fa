use Rattle.std.proofs.Common.{◌∙◌}
use Rattle.next_print.proofs.Passed.{Adds-item, AddsFront-item}
use Rattle.next_print.specs.Commands.{command_line}
use Rattle.next_print.proofs.commands.put_commands.Goals as goal

-- one more part
pub loop-command-preserved : goal.loop-command-preserved
loop-command-preserved g c = record {
  written = Adds-item command_line c.args.commands.now c.loop-command.command-index c.command-item.result _ _ _ _ _ _ c.loop-command-test.true c.command-item.is c.loop-command.invariant.written c.in_ok-put_command.ensures.ok;
  same = c.in_ok-put_command.ensures.cause.same ∙ c.loop-command.invariant.same;
}

-- the parts before this one and a front of it are a front
pub returns-in_err-put_command-clause-front : goal.returns-in_err-put_command-clause-front
returns-in_err-put_command-clause-front g c =
    AddsFront-item command_line c.args.commands.now c.loop-command.command-index c.command-item.result _ _ _ _ _ c.loop-command-test.true c.command-item.is c.loop-command.invariant.written c.in_err-put_command.ensures.front
