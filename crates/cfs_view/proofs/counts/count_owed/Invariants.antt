use Rattle.std.proofs.Common.{drop, ◌≡◌, ◌+◌, ◌*◌, ◌≤◌, length, map}
use Rattle.cfs_rules.specs.Several.{contents_in}
use Rattle.cfs_view.specs.PlaceLists.{shard_items, store_items}
use Rattle.cfs_view.specs.PlaceViews.{shard_view, store_view}
use Rattle.cfs_view.specs.Tallies.{owed_dirs, owed_files}
use Rattle.cfs_view.proofs.counts.count_owed.Given as goal

abbrev pub invariant-loop-place : goal.invariant-loop-place
invariant-loop-place l = (l.count + (owed_dirs (contents_in (map shard_view (shard_items (drop l.place-index l.places)))) + owed_files (contents_in (map store_view (store_items (drop l.place-index l.places)))))
    ≡ owed_dirs (contents_in (map shard_view (shard_items l.places))) + owed_files (contents_in (map store_view (store_items l.places))))
    × (l.count + 1048577 * length (drop l.place-index l.places) ≤ 1048577 * 130)
