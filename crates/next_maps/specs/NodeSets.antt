-- Which nodes a set has.
use Rattle.std.specs.Prelude.{Bool, is_some}
use Rattle.std.specs.FinMap.{get}
use Rattle.next_ids.specs.declared.ids.Node.{Node}
use Rattle.next_ids.specs.declared.ids.Node.TheVariants.{Dir, File}
use Rattle.next_maps.specs.declared.nodes.NodeSet.{NodeSet}

abbrev pub has_node : NodeSet → Node → Bool
has_node set (File file) = is_some (get set.files file.0)
has_node set (Dir dir) = is_some (get set.dirs dir.0)
