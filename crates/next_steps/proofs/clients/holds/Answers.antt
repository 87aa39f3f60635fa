use Rattle.std.proofs.Common.{◌∙◌, sym, arith}
use Rattle.next_steps.proofs.Held.{held-at, held-after}
use Rattle.next_steps.proofs.clients.holds.Goals as goal

pub returns-then-stands_at : goal.returns-then-stands_at
returns-then-stands_at c = sym (held-at c.args.clients.now c.loop-i.i c.args.client (sym c.if-stands_at.ensures))

pub loop-i-preserved : goal.loop-i-preserved
loop-i-preserved c = c.loop-i.invariant ∙ held-after c.args.clients.now c.loop-i.i c.args.client (omega arith) (sym c.if-stands_at.ensures)
