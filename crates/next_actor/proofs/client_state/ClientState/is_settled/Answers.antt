use Rattle.next_actor.proofs.Heard.{ended-kept, none-kept}
use Rattle.next_actor.specs.Programs.{plan_in}
use Rattle.next_actor.proofs.client_state.ClientState.is_settled.Goals as goal

pub returns-else-is_none-clause-ended : goal.returns-else-is_none-clause-ended
returns-else-is_none-clause-ended c = let self = c.args.self.now in λ e.
    none-kept self.kept c.is_none.result
    (ended-kept self.kept self.current self.program (plan_in self.program) self.stop self.steps self.ended self.last self.puts self.done.items self.fitting self.resting self.going e)
    c.if-is_none.ensures
