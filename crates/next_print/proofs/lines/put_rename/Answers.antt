use Rattle.next_print.proofs.Passed.{AddsFront-next}
use Rattle.next_print.proofs.lines.put_rename.Goals as goal

-- the first name and a front of the second
pub returns-clause-front : goal.returns-clause-front
returns-clause-front g c = AddsFront-next _ _ _ _ _ _ _ c.in_ok-put_named.ensures.ok c.put_to.ensures.front
