use Rattle.std.proofs.Common.{◌≡◌, ℕ}
use Rattle.std.specs.Prelude.{◌||◌}
use Rattle.std.specs.List.{list_any}
use Rattle.std.specs.FinMap.{entries}
use Rattle.next_ids.specs.Namespace.{names_file}
use Rattle.next_print.specs.NamedFiles.{has_file}
use Rattle.next_print.proofs.named.NamedFiles.add_rows.Given as goal

abbrev pub invariant-loop-node : goal.invariant-loop-node
invariant-loop-node l = (f : ℕ) → (has_file l.self f || list_any (λ row. names_file f row.1) l.node-iterator) ≡ (has_file l.fn.self f || list_any (λ row. names_file f row.1) (entries l.directory.names))
