use Rattle.next_print.proofs.Passed.{AddsFront-first, AddsFront-next}
use Rattle.next_print.specs.Lines.{line_text}
use Rattle.next_print.proofs.lines.put_line.Goals as goal

-- the start and a front of the call
pub returns-in_err-put_call-clause-front : goal.returns-in_err-put_call-clause-front
unfolding line_text
returns-in_err-put_call-clause-front g c = AddsFront-next _ _ _ _ _ _ _ c.in_ok-put_start.ensures.ok (AddsFront-first _ _ _ _ _ c.in_err-put_call.ensures.front)

-- the call too, and a front of the outcome
pub returns-clause-front : goal.returns-clause-front
unfolding line_text
returns-clause-front g c = AddsFront-next _ _ _ _ _ _ _ c.in_ok-put_start.ensures.ok (AddsFront-next _ _ _ _ _ _ _ c.in_ok-put_call.ensures.ok c.put_outcome.ensures.front)
