use Rattle.std.proofs.Common.{drop, ◌≡◌, map}
use Rattle.cfs_ids.specs.Namespace.{Namespace}
use Rattle.cfs_maps.specs.NodeSets.{has_node}
use Rattle.cfs_rules.specs.Several.{contents_in}
use Rattle.cfs_view.specs.PlaceLists.{store_items}
use Rattle.cfs_view.specs.PlaceViews.{store_view}
use Rattle.cfs_view.specs.Shown.{with_stores}
use Rattle.cfs_view.proofs.tree.add_all_files.Given as goal

abbrev pub invariant-loop-place : goal.invariant-loop-place
invariant-loop-place l = ◌≡◌ {A = Namespace}
    (record { dirs = l.namespace.dirs; files = with_stores (has_node l.named) l.namespace.files (contents_in (map store_view (store_items (drop l.place-index l.places)))) })
    (record { dirs = l.fn.namespace.dirs; files = with_stores (has_node l.named) l.fn.namespace.files (contents_in (map store_view (store_items l.places))) })
