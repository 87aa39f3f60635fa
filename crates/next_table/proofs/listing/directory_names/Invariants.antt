use Rattle.std.proofs.Common.{◌≡◌}
use Rattle.std.specs.List.{list_any}
use Rattle.std.specs.FinMap.{entries}
use Rattle.next_ids.specs.Namespace.{is_node}
use Rattle.next_table.proofs.listing.directory_names.Given as goal

abbrev pub invariant-loop-row : goal.invariant-loop-row
invariant-loop-row l = list_any (λ e. is_node l.node e.1.node) (entries l.names) ≡ list_any (λ e. is_node l.node e.1.node) l.row-iterator
