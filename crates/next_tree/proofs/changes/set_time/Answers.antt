use Rattle.next_tree.specs.Added.{timed}
use Rattle.next_tree.proofs.Written.{written}
use Rattle.next_tree.proofs.changes.set_time.Goals as goal

pub returns-in-Some-clause-ok : goal.returns-in-Some-clause-ok
returns-in-Some-clause-ok c = written _ _ c.args.dir.0 _ _ (rw c.in-Some.is at c.get_mut.ensures.value) (rw c.in-Some.is at (c.get_mut.follows.holds c.set_time.new.self)) (λ d. timed d c.args.time) c.set_time.ensures
