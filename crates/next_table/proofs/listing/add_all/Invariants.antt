use Rattle.std.proofs.Common.{◌≡◌}
use Rattle.std.specs.Prelude.{◌||◌}
use Rattle.std.specs.List.{list_any}
use Rattle.std.specs.FinMap.{entries}
use Rattle.next_ids.specs.declared.ids.Node.{Node}
use Rattle.next_ids.specs.Namespace.{is_node}
use Rattle.next_maps.specs.NodeSets.{has_node}
use Rattle.next_table.proofs.listing.add_all.Given as goal

abbrev pub invariant-loop-names : goal.invariant-loop-names
invariant-loop-names l = (x : Node) → (has_node l.nodes x || list_any (λ d. list_any (λ e. is_node x e.1.node) (entries d.1)) l.names-iterator) ≡ (has_node l.fn.nodes x || list_any (λ d. list_any (λ e. is_node x e.1.node) (entries d.1)) (entries l.rows))
