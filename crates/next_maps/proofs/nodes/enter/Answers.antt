use Rattle.next_maps.proofs.Entered.{has-insert}
use Rattle.next_maps.proofs.nodes.enter.Goals as goal

pub returns-in-Ok-clause-ok : goal.returns-in-Ok-clause-ok
returns-in-Ok-clause-ok c k = rw c.in-Ok.ensures.ok (has-insert c.args.numbers.now c.args.number tt k)
