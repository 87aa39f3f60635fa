use Rattle.std.proofs.Common.{drop, ◌≡◌, ◌+◌, ◌*◌, ◌≤◌, length, map}
use Rattle.cfs_rules.specs.Several.{contents_in}
use Rattle.cfs_view.specs.PlaceLists.{shard_items, store_items, roster_in}
use Rattle.cfs_view.specs.PlaceViews.{shard_view, store_view}
use Rattle.cfs_view.specs.Shown.{names_in}
use Rattle.cfs_view.specs.Tallies.{stray_dirs, stray_files}
use Rattle.cfs_view.proofs.counts.count_strays.Given as goal

abbrev pub invariant-loop-place : goal.invariant-loop-place
invariant-loop-place l = (l.count + (stray_dirs (roster_in l.places) (names_in (contents_in (map shard_view (shard_items l.places)))) (contents_in (map shard_view (shard_items (drop l.place-index l.places))))
    + stray_files (roster_in l.places) (names_in (contents_in (map shard_view (shard_items l.places)))) (contents_in (map store_view (store_items (drop l.place-index l.places)))))
    ≡ stray_dirs (roster_in l.places) (names_in (contents_in (map shard_view (shard_items l.places)))) (contents_in (map shard_view (shard_items l.places))) + stray_files (roster_in l.places) (names_in (contents_in (map shard_view (shard_items l.places)))) (contents_in (map store_view (store_items l.places))))
    × (l.count + 1048577 * length (drop l.place-index l.places) ≤ 1048577 * 130)
