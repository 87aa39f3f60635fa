use Rattle.std.proofs.Common.{drop, ◌≡◌, map}
use Rattle.cfs_ids.specs.declared.ids.Node.TheVariants.{Dir}
use Rattle.cfs_rules.specs.Several.{contents_in}
use Rattle.cfs_view.specs.PlaceLists.{shard_items}
use Rattle.cfs_view.specs.PlaceViews.{shard_view}
use Rattle.cfs_view.specs.Shown.{names_in}
use Rattle.cfs_view.proofs.counts.names_dir.Given as goal

abbrev pub invariant-loop-place : goal.invariant-loop-place
invariant-loop-place l = names_in (contents_in (map shard_view (shard_items l.places))) (Dir l.dir) ≡ names_in (contents_in (map shard_view (shard_items (drop l.place-index l.places)))) (Dir l.dir)
