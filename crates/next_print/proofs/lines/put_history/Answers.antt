use Rattle.std.proofs.Common.{◌∙◌}
use Rattle.next_print.proofs.Passed.{Adds-item, AddsFront-item}
use Rattle.next_print.specs.Lines.{item_text}
use Rattle.next_print.proofs.lines.put_history.Goals as goal

-- one more part
pub loop-item-preserved : goal.loop-item-preserved
loop-item-preserved g c = record {
  written = Adds-item item_text c.args.items.now c.loop-item.item-index c.item-item.result _ _ _ _ _ _ c.loop-item-test.true c.item-item.is c.loop-item.invariant.written c.in_ok-put_item.ensures.ok;
  same = c.in_ok-put_item.ensures.cause.same ∙ c.loop-item.invariant.same;
}

-- the parts before this one and a front of it are a front
pub returns-in_err-put_item-clause-front : goal.returns-in_err-put_item-clause-front
returns-in_err-put_item-clause-front g c =
    AddsFront-item item_text c.args.items.now c.loop-item.item-index c.item-item.result _ _ _ _ _ c.loop-item-test.true c.item-item.is c.loop-item.invariant.written c.in_err-put_item.ensures.front
