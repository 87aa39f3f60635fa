use Rattle.next_laws_tree.proofs.Upward.{one_tree}
use Rattle.next_laws_tree.proofs.a_whole_tree_is_one_tree.Goals as goal

pub returns : goal.returns
returns c = λ v housed whole. one_tree v housed whole
