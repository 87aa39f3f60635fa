use Rattle.next_ids.specs.Namespace.{with_name}
use Rattle.next_tree.proofs.Written.{written-ok, written-err}
use Rattle.next_tree.proofs.moves.put_name.Goals as goal

pub returns-clause-ok : goal.returns-clause-ok
returns-clause-ok c = written-ok _ _ c.args.dir.0 _ _ (rw c.unwrap.ensures at c.get_mut.ensures.value) (rw c.unwrap.ensures at (c.get_mut.follows.holds c.put.new.self)) c.put.result (λ d. with_name d c.args.name c.args.node c.args.time) c.put.ensures.ok

pub returns-clause-err : goal.returns-clause-err
returns-clause-err c = written-err _ _ c.args.dir.0 _ _ (rw c.unwrap.ensures at c.get_mut.ensures.value) (rw c.unwrap.ensures at (c.get_mut.follows.holds c.put.new.self)) c.put.result c.put.ensures.err
