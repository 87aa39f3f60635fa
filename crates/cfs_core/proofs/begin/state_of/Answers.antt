use Rattle.std.proofs.Common.{List, IsTrue, sym, subst, ◌∙◌}
use Rattle.std.specs.List.{list_all}
use Rattle.cfs_walk.specs.declared.command.Command.{Command}
use Rattle.cfs_walk.specs.Commands.{is_in_form}
use Rattle.cfs_actor.specs.Plans.{HasSteps, plan_of}
use Rattle.cfs_core.proofs.Built.{all-formed, all-steps}
use Rattle.cfs_core.specs.Opening.{tries}
use Rattle.cfs_core.proofs.begin.state_of.Goals as goal

pub new-requires-clause-form : goal.new-requires-clause-form
new-requires-clause-form c = subst (λ (commands : List Command). IsTrue (list_all is_in_form commands)) (sym (c.in_ok-queue.ensures ∙ c.as_slice.ensures)) (all-formed c.args.commands.now c.requires.built)

pub new-requires-clause-steps : goal.new-requires-clause-steps
new-requires-clause-steps c = subst (λ (commands : List Command). HasSteps (plan_of tries commands)) (sym (c.in_ok-queue.ensures ∙ c.as_slice.ensures)) (all-steps tries c.args.commands.now c.requires.built)
