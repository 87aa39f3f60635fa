use Rattle.std.proofs.Common.{◌≡◌, ◌+◌, ◌<◌, ◌^◌, length}
use Rattle.std.specs.FinMap.{entries}
use Rattle.next_ids.specs.Maps.{how_many}
use Rattle.next_ids.specs.Namespace.{is_dir}
use Rattle.next_tree.proofs.rows.dirs_in.Given as goal

abbrev pub invariant-loop-node : goal.invariant-loop-node
invariant-loop-node l = (l.count + how_many (λ row. is_dir row.1) l.node-iterator ≡ how_many (λ row. is_dir row.1) (entries l.names)) × (l.count + length l.node-iterator < 2 ^ 63)
