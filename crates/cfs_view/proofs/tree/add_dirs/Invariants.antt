use Rattle.std.proofs.Common.{◌≡◌}
use Rattle.std.specs.FinMap.{entries}
use Rattle.cfs_ids.specs.Namespace.{Namespace}
use Rattle.cfs_maps.specs.NodeSets.{has_node}
use Rattle.cfs_shard.specs.Shards as shards
use Rattle.cfs_view.specs.Collected.{with_each}
use Rattle.cfs_view.specs.Shown.{shown_dir}
use Rattle.cfs_view.proofs.tree.add_dirs.Given as goal

abbrev pub invariant-loop-dir : goal.invariant-loop-dir
invariant-loop-dir l = ◌≡◌ {A = Namespace}
    (record { dirs = with_each (shown_dir (has_node l.named) (shards.contents_of l.shard)) l.namespace.dirs l.dir-iterator; files = l.namespace.files })
    (record { dirs = with_each (shown_dir (has_node l.named) (shards.contents_of l.shard)) l.fn.namespace.dirs (entries (shards.contents_of l.shard).recs); files = l.fn.namespace.files })
