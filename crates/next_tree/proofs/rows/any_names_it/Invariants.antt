use Rattle.std.proofs.Common.{◌≡◌}
use Rattle.std.specs.List.{list_any}
use Rattle.std.specs.FinMap.{entries}
use Rattle.next_ids.specs.Namespace.{names_file}
use Rattle.next_tree.proofs.rows.any_names_it.Given as goal

abbrev pub invariant-loop-directory : goal.invariant-loop-directory
invariant-loop-directory l = list_any (λ dir. list_any (λ row. names_file l.file.0 row.1) (entries dir.1.names)) (entries l.dirs) ≡ list_any (λ dir. list_any (λ row. names_file l.file.0 row.1) (entries dir.1.names)) l.directory-iterator
