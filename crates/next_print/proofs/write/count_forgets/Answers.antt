use Rattle.std.proofs.Common.{sym, ◌∙◌}
use Rattle.next_print.specs.Texts.{is_forget}
use Rattle.next_print.proofs.Counts.{count-more, count-same}
use Rattle.next_print.proofs.write.count_forgets.Goals.{then-is_forget, else-is_forget}
use Rattle.next_print.proofs.write.count_forgets.Goals as goal

pub loop-item-preserved : goal.loop-item-preserved
loop-item-preserved c = elim c.if-is_forget.branch [
  | then-is_forget w ↦ rw w.count-is (count-more is_forget c.args.items.now c.loop-item.item-index c.item-item.result c.loop-item.count c.loop-item-test.true c.item-item.is c.loop-item.invariant (sym c.is_forget.ensures ∙ w.if-is_forget.true))
  | else-is_forget w ↦ rw w.count-is (count-same is_forget c.args.items.now c.loop-item.item-index c.item-item.result c.loop-item.count c.loop-item-test.true c.item-item.is c.loop-item.invariant (sym c.is_forget.ensures ∙ w.if-is_forget.false))
]
