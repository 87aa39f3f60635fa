use Rattle.std.proofs.Common.{sym, ◌∙◌}
use Rattle.next_print.specs.Texts.{is_call}
use Rattle.next_print.proofs.Counts.{count-more, count-same}
use Rattle.next_print.proofs.write.count_calls.Goals.{then-is_call, else-is_call}
use Rattle.next_print.proofs.write.count_calls.Goals as goal

pub loop-item-preserved : goal.loop-item-preserved
loop-item-preserved c = elim c.if-is_call.branch [
  | then-is_call w ↦ rw w.count-is (count-more is_call c.args.items.now c.loop-item.item-index c.item-item.result c.loop-item.count c.loop-item-test.true c.item-item.is c.loop-item.invariant (sym c.is_call.ensures ∙ w.if-is_call.true))
  | else-is_call w ↦ rw w.count-is (count-same is_call c.args.items.now c.loop-item.item-index c.item-item.result c.loop-item.count c.loop-item-test.true c.item-item.is c.loop-item.invariant (sym c.is_call.ensures ∙ w.if-is_call.false))
]
