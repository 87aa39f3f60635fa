use Rattle.next_print.proofs.Passed.{AddsFront-next}
use Rattle.next_print.specs.Lines.{rows_text}
use Rattle.next_print.proofs.lines.put_list.Goals as goal

-- the head and a front of the rows
pub returns-clause-front : goal.returns-clause-front
unfolding rows_text
returns-clause-front g c = AddsFront-next _ _ _ _ _ _ _ c.in_ok-put_rows_head.ensures.ok c.put_rows.ensures.front
