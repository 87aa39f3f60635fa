use Rattle.next_ids.specs.Namespace.{without_name}
use Rattle.next_tree.proofs.Written.{written}
use Rattle.next_tree.proofs.moves.cut_name.Goals as goal

pub returns : goal.returns
returns c = written _ _ c.args.dir.0 _ _ (rw c.unwrap.ensures at c.get_mut.ensures.value) (rw c.unwrap.ensures at (c.get_mut.follows.holds c.cut.new.self)) (λ d. without_name d c.args.name.now c.args.time) c.cut.ensures
