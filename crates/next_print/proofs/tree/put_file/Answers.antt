use Rattle.next_print.proofs.Passed.{AddsFront-next}
use Rattle.next_print.specs.Trees.{file_line}
use Rattle.next_print.proofs.tree.put_file.Goals as goal

-- the start and a front of the rest
pub returns-clause-front : goal.returns-clause-front
unfolding file_line
returns-clause-front g c = AddsFront-next _ _ _ _ _ _ _ c.in_ok-put_file_start.ensures.ok c.put_facts.ensures.front
