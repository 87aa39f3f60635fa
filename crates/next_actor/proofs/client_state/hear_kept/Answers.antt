use Rattle.std.proofs.Common.{◌≡◌, true, rules, arith}
use Rattle.next_steps.specs.Calls.{is_going}
use Rattle.next_calls.specs.CallMachines.{phase_in}
use Rattle.next_actor.proofs.Heard.{listed-kept, begun-kept}
use Rattle.next_actor.proofs.client_state.hear_kept.Goals as goal

pub hear-requires-clause-listed : goal.hear-requires-clause-listed
hear-requires-clause-listed c = let going : is_going (phase_in c.args.machine.now) ≡ true = search rules in listed-kept c.args.kept.now c.args.machine.now c.requires going

pub returns-clause-begun : goal.returns-clause-begun
returns-clause-begun c = let going : is_going (phase_in c.args.machine.now) ≡ true = search rules in
    grind (arith, begun-kept c.args.kept.now c.args.machine.now c.requires going)
