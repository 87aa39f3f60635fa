use Rattle.std.specs.Map.Iter.{deref_pair}
use Rattle.next_tree.proofs.Alike.{same_ends}
use Rattle.next_tree.proofs.same.same_dirs.Goals as goal

pub returns : goal.returns
returns c = same_ends c.args.dirs.now c.args.others.now c.loop-dir.dir-iterator c.loop-dir.left c.loop-dir.invariant (rw c.in-None.is at c.next.ensures.steps).0 deref_pair c.next-2.result c.next-2.new.self c.next-2.ensures.steps c.is_none.result c.is_none.ensures
