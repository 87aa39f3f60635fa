use Rattle.std.proofs.Common.{◌∙◌}
use Rattle.std.specs.FinMap.{len-entries}
use Rattle.next_tree.proofs.Counting.{count_start}
use Rattle.next_tree.proofs.rows.dirs_in.Goals as goal

pub loop-node-init : goal.loop-node-init
loop-node-init c = count_start _ _ _ _ (c.into_iter-node-iterator.ensures.into_iter_gives ∙ c.iter-node-items.ensures.rest) (rw (len-entries c.args.names.now) at c.iter-node-items.ensures.fits)
