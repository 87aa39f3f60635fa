use Rattle.std.proofs.Common.{sym, ◌∙◌}
use Rattle.next_print.specs.Texts.{is_busy}
use Rattle.next_print.proofs.Counts.{count-more, count-same}
use Rattle.next_print.proofs.write.count_busy.Goals.{then-is_busy, else-is_busy}
use Rattle.next_print.proofs.write.count_busy.Goals as goal

pub loop-item-preserved : goal.loop-item-preserved
loop-item-preserved c = elim c.if-is_busy.branch [
  | then-is_busy w ↦ rw w.count-is (count-more is_busy c.args.items.now c.loop-item.item-index c.item-item.result c.loop-item.count c.loop-item-test.true c.item-item.is c.loop-item.invariant (sym c.is_busy.ensures ∙ w.if-is_busy.true))
  | else-is_busy w ↦ rw w.count-is (count-same is_busy c.args.items.now c.loop-item.item-index c.item-item.result c.loop-item.count c.loop-item-test.true c.item-item.is c.loop-item.invariant (sym c.is_busy.ensures ∙ w.if-is_busy.false))
]
