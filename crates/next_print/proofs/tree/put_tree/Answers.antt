use Rattle.next_print.proofs.Passed.{AddsFront-next}
use Rattle.next_print.specs.Trees.{tree_lines}
use Rattle.next_print.proofs.tree.put_tree.Goals as goal

-- the root's line and a front of the rows
pub returns-clause-front : goal.returns-clause-front
unfolding tree_lines
returns-clause-front g c = AddsFront-next _ _ _ _ _ _ _ c.in_ok-put_root.ensures.ok c.put_dirs.ensures.front
