use Rattle.std.proofs.Common.{◌∙◌}
use Rattle.std.specs.FinMap.{len-entries}
use Rattle.cfs_store.specs.Stores as stores
use Rattle.cfs_view.proofs.Counted.{count_start}
use Rattle.cfs_view.proofs.counts.owed_in_store.Goals as goal

pub loop-rec-init : goal.loop-rec-init
loop-rec-init c = count_start _ _ _ _ (c.into_iter-rec-iterator.ensures.into_iter_gives ∙ c.files-rec-items.ensures.rest) (rw (len-entries (stores.contents_of c.args.store.now)) at c.files-rec-items.ensures.fits)
