use Rattle.std.proofs.Common.{◌∙◌}
use Rattle.std.specs.FinMap.{len-entries}
use Rattle.cfs_shard.specs.Shards as shards
use Rattle.cfs_view.proofs.Counted.{count_start}
use Rattle.cfs_view.proofs.counts.strays_in_shard.Goals as goal

pub loop-dir-init : goal.loop-dir-init
loop-dir-init c = count_start _ _ _ _ (c.into_iter-dir-iterator.ensures.into_iter_gives ∙ c.recs-dir-items.ensures.rest) (rw (len-entries ((shards.contents_of c.args.shard.now).recs)) at c.recs-dir-items.ensures.fits)
