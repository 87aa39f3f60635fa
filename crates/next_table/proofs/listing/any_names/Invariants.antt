use Rattle.std.proofs.Common.{◌≡◌}
use Rattle.std.specs.List.{list_any}
use Rattle.std.specs.FinMap.{entries}
use Rattle.next_ids.specs.Namespace.{is_node}
use Rattle.next_table.proofs.listing.any_names.Given as goal

abbrev pub invariant-loop-names : goal.invariant-loop-names
invariant-loop-names l = list_any (λ d. list_any (λ e. is_node l.node e.1.node) (entries d.1)) (entries l.rows) ≡ list_any (λ d. list_any (λ e. is_node l.node e.1.node) (entries d.1)) l.names-iterator
