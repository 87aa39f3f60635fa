use Rattle.std.specs.Prelude.{Some}
use Rattle.next_actor.proofs.Told.{told-begun}
use Rattle.next_actor.proofs.client_state.ClientState.begin.Goals as goal

pub returns-in_err-call-clause-told : goal.returns-in_err-call-clause-told
returns-in_err-call-clause-told c = let self = c.args.self.now in told-begun self.kept self.current self.current self.program c.next_call.new.self c.requires c.next_call.ensures.told

pub returns-in_default-clause-told : goal.returns-in_default-clause-told
returns-in_default-clause-told c = let self = c.args.self.now in told-begun self.kept self.current self.current self.program c.next_call.new.self c.requires c.next_call.ensures.told

pub returns-in-Some-clause-told : goal.returns-in-Some-clause-told
returns-in-Some-clause-told c = let self = c.args.self.now in told-begun self.kept self.current (Some c.start.result) self.program c.next_call.new.self c.requires c.next_call.ensures.told
