use Rattle.std.proofs.Common.{sym, ◌∙◌}
use Rattle.next_print.specs.Texts.{is_unfinished}
use Rattle.next_print.proofs.Counts.{count-more, count-same}
use Rattle.next_print.proofs.write.count_unfinished.Goals.{then-is_unfinished, else-is_unfinished}
use Rattle.next_print.proofs.write.count_unfinished.Goals as goal

pub loop-item-preserved : goal.loop-item-preserved
loop-item-preserved c = elim c.if-is_unfinished.branch [
  | then-is_unfinished w ↦ rw w.count-is (count-more is_unfinished c.args.items.now c.loop-item.item-index c.item-item.result c.loop-item.count c.loop-item-test.true c.item-item.is c.loop-item.invariant (sym c.is_unfinished.ensures ∙ w.if-is_unfinished.true))
  | else-is_unfinished w ↦ rw w.count-is (count-same is_unfinished c.args.items.now c.loop-item.item-index c.item-item.result c.loop-item.count c.loop-item-test.true c.item-item.is c.loop-item.invariant (sym c.is_unfinished.ensures ∙ w.if-is_unfinished.false))
]
