use Rattle.next_print.proofs.Passed.{Adds-last, AddsFront-first, AddsFront-next}
use Rattle.next_print.specs.Trees.{root_line}
use Rattle.next_print.proofs.tree.put_root.Goals as goal

-- a front of the start
pub returns-in_err-put-clause-front : goal.returns-in_err-put-clause-front
unfolding root_line
returns-in_err-put-clause-front g c = AddsFront-first _ _ _ _ _ c.in_err-put.ensures.front

-- the start and a front of the rest
pub returns-clause-front : goal.returns-clause-front
unfolding root_line
returns-clause-front g c = AddsFront-next _ _ _ _ _ _ _ c.in_ok-put.ensures.ok c.put_directory_at.ensures.front

-- the start and then the rest
pub returns-clause-ok : goal.returns-clause-ok
unfolding root_line
returns-clause-ok g c = Adds-last c.put_directory_at.result _ _ _ _ _ _ _ _ c.in_ok-put.ensures.ok c.put_directory_at.ensures.ok
