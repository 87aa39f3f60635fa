use Rattle.std.proofs.Common.{◌∙◌, sym}
use Rattle.next_actor.proofs.Heard.{hears-final, hears-kept, fits-kept, same-number, settled-none}
use Rattle.next_actor.proofs.Told.{told-kept, told-final}
use Rattle.next_actor.specs.Programs.{plan_in}
use Rattle.next_actor.specs.States.{is_ready}
use Rattle.next_actor.proofs.client_state.ClientState.hear.Goals as goal

pub invariant_of-self-then-has_call-clause-fitting : goal.invariant_of-self-then-has_call-clause-fitting
invariant_of-self-then-has_call-clause-fitting c = let self = c.args.self.now in
    fits-kept self.kept self.current (plan_in self.program) self.stop self.steps self.ended self.last self.puts self.done.items self.counts self.client c.args.place c.args.entry
    (settled-none self.kept (is_ready self.current self.program) c.requires.settled) c.requires.going (sym c.has_call.ensures ∙ c.if-has_call.true) c.requires.asked c.requires.listed

pub invariant_of-self-then-has_call-clause-stamped : goal.invariant_of-self-then-has_call-clause-stamped
invariant_of-self-then-has_call-clause-stamped c = same-number c.args.entry.number

pub returns-then-has_call-clause-progress : goal.returns-then-has_call-clause-progress
returns-then-has_call-clause-progress c = let self = c.args.self.now in
    hears-kept self.kept self.current (plan_in self.program) self.stop self.steps self.ended self.last self.puts self.done.items c.args.place c.args.entry
    (settled-none self.kept (is_ready self.current self.program) c.requires.settled) c.requires.going (sym c.has_call.ensures ∙ c.if-has_call.true)

pub returns-else-has_call-clause-progress : goal.returns-else-has_call-clause-progress
returns-else-has_call-clause-progress c = let self = c.args.self.now in
    hears-final self.kept self.current self.program self.stop self.steps self.ended self.last self.puts self.done.items c.args.place c.args.entry
    c.requires.settled c.requires.going (sym c.has_call.ensures ∙ c.if-has_call.false)

pub returns-then-has_call-clause-told : goal.returns-then-has_call-clause-told
returns-then-has_call-clause-told c = let self = c.args.self.now in
    told-kept self.kept self.current self.program (plan_in self.program) self.stop self.steps self.ended self.last self.puts self.done.items c.args.place c.args.entry
    (settled-none self.kept (is_ready self.current self.program) c.requires.settled) c.requires.going (sym c.has_call.ensures ∙ c.if-has_call.true)

pub returns-else-has_call-clause-told : goal.returns-else-has_call-clause-told
returns-else-has_call-clause-told c = let self = c.args.self.now in
    told-final self.kept self.current self.program self.stop self.steps self.ended self.last self.puts self.done.items c.args.place c.args.entry
    c.requires.settled c.requires.going (sym c.has_call.ensures ∙ c.if-has_call.false)
