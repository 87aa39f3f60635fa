use Rattle.next_ids.specs.Namespace.{cut_file}
use Rattle.next_tree.proofs.Written.{written}
use Rattle.next_tree.proofs.moves.set_size.Goals as goal

pub returns : goal.returns
returns c = written _ _ c.args.file.0 _ _ (rw c.unwrap.ensures at c.get_mut.ensures.value) (rw c.unwrap.ensures at (c.get_mut.follows.holds c.set_size.new.self)) (λ f. cut_file f c.args.size c.args.time) c.set_size.ensures
