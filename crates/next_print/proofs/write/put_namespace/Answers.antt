use Rattle.next_print.proofs.Passed.{AddsFront-next}
use Rattle.next_print.specs.Texts.{namespace_lines}
use Rattle.next_print.proofs.write.put_namespace.Goals as goal

-- the tree and a front of the files without a name
pub returns-clause-front : goal.returns-clause-front
unfolding namespace_lines
returns-clause-front g c = AddsFront-next _ _ _ _ _ _ _ c.in_ok-put_tree.ensures.ok c.put_unnamed.ensures.front
