use Rattle.std.proofs.Common.{◌∙◌}
use Rattle.next_print.proofs.Passed.{Adds-item, AddsFront-item}
use Rattle.next_print.specs.Lines.{row_line}
use Rattle.next_print.proofs.lines.put_rows.Goals as goal

-- one more part
pub loop-row-preserved : goal.loop-row-preserved
loop-row-preserved g c = record {
  written = Adds-item row_line c.args.rows.now c.loop-row.row-index c.row-item.result _ _ _ _ _ _ c.loop-row-test.true c.row-item.is c.loop-row.invariant.written c.in_ok-put_row.ensures.ok;
  same = c.in_ok-put_row.ensures.cause.same ∙ c.loop-row.invariant.same;
}

-- the parts before this one and a front of it are a front
pub returns-in_err-put_row-clause-front : goal.returns-in_err-put_row-clause-front
returns-in_err-put_row-clause-front g c =
    AddsFront-item row_line c.args.rows.now c.loop-row.row-index c.row-item.result _ _ _ _ _ c.loop-row-test.true c.row-item.is c.loop-row.invariant.written c.in_err-put_row.ensures.front
