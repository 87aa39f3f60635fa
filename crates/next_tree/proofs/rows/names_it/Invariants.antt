use Rattle.std.proofs.Common.{◌≡◌}
use Rattle.std.specs.List.{list_any}
use Rattle.std.specs.FinMap.{entries}
use Rattle.next_ids.specs.Namespace.{is_node}
use Rattle.next_tree.proofs.rows.names_it.Given as goal

abbrev pub invariant-loop-other : goal.invariant-loop-other
invariant-loop-other l = list_any (λ row. is_node l.node row.1) (entries l.names) ≡ list_any (λ row. is_node l.node row.1) l.other-iterator
