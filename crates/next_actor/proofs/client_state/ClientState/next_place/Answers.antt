use Rattle.std.proofs.Common.{◌∙◌, sym}
use Rattle.next_actor.proofs.Heard.{place-settled, settled-none}
use Rattle.next_actor.specs.Programs.{plan_in}
use Rattle.next_actor.specs.States.{is_ready}
use Rattle.next_actor.proofs.client_state.ClientState.next_place.Goals as goal

pub returns-in-Some-clause-place : goal.returns-in-Some-clause-place
returns-in-Some-clause-place c = let self = c.args.self.now in λ moment.
    place-settled self.kept self.current c.in-Some.machine (plan_in self.program) self.stop self.steps self.ended self.last self.puts self.done.items self.counts self.client c.next_place.result moment
    (settled-none self.kept (is_ready self.current self.program) c.requires) c.in-Some.is c.if-self.false (sym c.is_due.ensures ∙ c.if-not-is_due.true) self.own c.next_place.ensures
