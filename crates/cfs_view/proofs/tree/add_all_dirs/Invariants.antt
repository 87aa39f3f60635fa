use Rattle.std.proofs.Common.{drop, ◌≡◌, map}
use Rattle.cfs_ids.specs.Namespace.{Namespace}
use Rattle.cfs_maps.specs.NodeSets.{has_node}
use Rattle.cfs_rules.specs.Several.{contents_in}
use Rattle.cfs_view.specs.PlaceLists.{shard_items}
use Rattle.cfs_view.specs.PlaceViews.{shard_view}
use Rattle.cfs_view.specs.Shown.{with_shards}
use Rattle.cfs_view.proofs.tree.add_all_dirs.Given as goal

abbrev pub invariant-loop-place : goal.invariant-loop-place
invariant-loop-place l = ◌≡◌ {A = Namespace}
    (record { dirs = with_shards (has_node l.named) l.namespace.dirs (contents_in (map shard_view (shard_items (drop l.place-index l.places)))); files = l.namespace.files })
    (record { dirs = with_shards (has_node l.named) l.fn.namespace.dirs (contents_in (map shard_view (shard_items l.places))); files = l.fn.namespace.files })
