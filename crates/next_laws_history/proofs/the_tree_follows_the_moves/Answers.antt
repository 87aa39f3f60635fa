use Rattle.next_laws_history.proofs.Plain.{tree_law}
use Rattle.next_laws_history.proofs.the_tree_follows_the_moves.Goals as goal

pub returns : goal.returns
returns c = tree_law
