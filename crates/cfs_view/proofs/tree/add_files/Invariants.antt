use Rattle.std.proofs.Common.{◌≡◌}
use Rattle.std.specs.FinMap.{entries}
use Rattle.cfs_ids.specs.Namespace.{Namespace}
use Rattle.cfs_maps.specs.NodeSets.{has_node}
use Rattle.cfs_store.specs.Stores as stores
use Rattle.cfs_view.specs.Collected.{with_each}
use Rattle.cfs_view.specs.Shown.{shown_file}
use Rattle.cfs_view.proofs.tree.add_files.Given as goal

abbrev pub invariant-loop-file : goal.invariant-loop-file
invariant-loop-file l = ◌≡◌ {A = Namespace}
    (record { dirs = l.namespace.dirs; files = with_each (shown_file (has_node l.named)) l.namespace.files l.file-iterator })
    (record { dirs = l.fn.namespace.dirs; files = with_each (shown_file (has_node l.named)) l.fn.namespace.files (entries (stores.contents_of l.store)) })
