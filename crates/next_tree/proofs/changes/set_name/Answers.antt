use Rattle.next_tree.specs.Added.{named}
use Rattle.next_tree.proofs.Written.{written-ok, written-err}
use Rattle.next_tree.proofs.changes.set_name.Goals as goal

pub returns-clause-ok : goal.returns-clause-ok
returns-clause-ok c = written-ok _ _ c.args.dir.0 _ _ (rw c.unwrap.ensures at c.get_mut.ensures.value) (rw c.unwrap.ensures at (c.get_mut.follows.holds c.set.new.self)) c.set.result (λ d. named d c.args.name c.args.node) c.set.ensures.ok

pub returns-clause-err : goal.returns-clause-err
returns-clause-err c = written-err _ _ c.args.dir.0 _ _ (rw c.unwrap.ensures at c.get_mut.ensures.value) (rw c.unwrap.ensures at (c.get_mut.follows.holds c.set.new.self)) c.set.result c.set.ensures.err
