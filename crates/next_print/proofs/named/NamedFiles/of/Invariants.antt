use Rattle.std.proofs.Common.{◌≡◌, ℕ}
use Rattle.std.specs.Prelude.{◌||◌}
use Rattle.std.specs.List.{list_any}
use Rattle.std.specs.FinMap.{entries}
use Rattle.next_ids.specs.Namespace.{names_file, is_listed}
use Rattle.next_print.specs.NamedFiles.{has_file}
use Rattle.next_print.proofs.named.NamedFiles.of.Given as goal

abbrev pub invariant-loop-directory : goal.invariant-loop-directory
invariant-loop-directory l = (f : ℕ) → (has_file l.named f || list_any (λ d. list_any (λ e. names_file f e.1) (entries d.1.names)) l.directory-iterator) ≡ is_listed l.tree f
