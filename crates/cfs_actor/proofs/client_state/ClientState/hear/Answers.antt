use Rattle.cfs_actor.proofs.Heard.{fits-heard, same-number, answers-settled}
use Rattle.cfs_actor.specs.Programs.{plan_in}
use Rattle.cfs_actor.specs.States.{worked_in, is_ready}
use Rattle.cfs_actor.proofs.client_state.ClientState.hear.Goals as goal

pub invariant_of-self-else-is_none-clause-fitting : goal.invariant_of-self-else-is_none-clause-fitting
invariant_of-self-else-is_none-clause-fitting c = let self = c.args.self.now in
    fits-heard (record { place = c.args.place; entry = c.args.entry }) self.current (plan_in self.program) c.if-is_none.ensures
    (answers-settled self.kept (worked_in self.current (plan_in self.program) self.ended self.last self.puts self.done.items) c.args.entry.answer (is_ready self.current self.program) c.requires.settled c.requires.listed)

pub invariant_of-self-else-is_none-clause-stamped : goal.invariant_of-self-else-is_none-clause-stamped
invariant_of-self-else-is_none-clause-stamped c = same-number c.args.entry.number
