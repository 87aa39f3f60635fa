use Rattle.std.proofs.Common.{drop, ◌≡◌, map}
use Rattle.std.specs.Prelude.{◌||◌}
use Rattle.cfs_ids.specs.declared.ids.Node.{Node}
use Rattle.cfs_rules.specs.Several.{contents_in}
use Rattle.cfs_maps.specs.NodeSets.{has_node}
use Rattle.cfs_view.specs.PlaceLists.{shard_items}
use Rattle.cfs_view.specs.PlaceViews.{shard_view}
use Rattle.cfs_view.specs.Shown.{names_in}
use Rattle.cfs_view.proofs.tree.named_nodes.Given as goal

abbrev pub invariant-loop-place : goal.invariant-loop-place
invariant-loop-place l = (x : Node) → (has_node l.named x || names_in (contents_in (map shard_view (shard_items (drop l.place-index l.places)))) x) ≡ names_in (contents_in (map shard_view (shard_items l.places))) x
