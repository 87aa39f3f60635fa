use Rattle.cfs_maps.specs.NodeSets.{has_node}
use Rattle.cfs_rules.specs.Several.{contents_in}
use Rattle.cfs_view.specs.Views.{shards_of, stores_of}
use Rattle.cfs_view.proofs.WholeTree.{tree_whole}
use Rattle.cfs_view.proofs.tree.tree_of.Goals as goal

pub returns : goal.returns
returns c =
    let p = c.args.places.now in
    tree_whole (contents_in (shards_of p)) c.requires.all.shards.own (has_node c.in_ok-named.named) (rw c.as_slice-places.ensures at c.in_ok-named.ensures) (contents_in (stores_of p)) c.requires.all.stores.own
    c.new-namespace.result c.add_all_dirs.new.namespace c.add_all_files.new.namespace c.new-namespace.ensures (rw c.as_slice-places.ensures at c.in_ok-add_all_dirs.ensures) (rw c.as_slice-places.ensures at c.in_ok-add_all_files.ensures)
