use Rattle.std.proofs.Common.{◌∙◌}
use Rattle.std.specs.FinMap.{len-entries}
use Rattle.cfs_shard.specs.Shards as shards
use Rattle.cfs_view.proofs.Counted.{count_start}
use Rattle.cfs_view.proofs.counts.owed_in_shard.Goals as goal

pub loop-rec-init : goal.loop-rec-init
loop-rec-init c = count_start _ _ _ _ (c.into_iter-rec-iterator.ensures.into_iter_gives ∙ c.recs-rec-items.ensures.rest) (rw (len-entries ((shards.contents_of c.args.shard.now).recs)) at c.recs-rec-items.ensures.fits)
