use Rattle.std.proofs.Common.{drop, ◌≡◌, map}
use Rattle.cfs_rules.specs.Several.{contents_in}
use Rattle.cfs_view.specs.Checks.{any_miscounts}
use Rattle.cfs_view.specs.PlaceLists.{shard_items}
use Rattle.cfs_view.specs.PlaceViews.{shard_view}
use Rattle.cfs_view.proofs.checks.any_miscounts.Given as goal

abbrev pub invariant-loop-place : goal.invariant-loop-place
invariant-loop-place l = any_miscounts (contents_in (map shard_view (shard_items l.places))) (contents_in (map shard_view (shard_items l.places))) ≡ any_miscounts (contents_in (map shard_view (shard_items l.places))) (contents_in (map shard_view (shard_items (drop l.place-index l.places))))
