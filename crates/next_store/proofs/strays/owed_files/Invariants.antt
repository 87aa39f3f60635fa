use Rattle.std.proofs.Common.{◌≡◌, ◌++◌}
use Rattle.std.specs.Prelude.{flat_map}
use Rattle.next_rules.specs.Strays as strays
use Rattle.next_store.proofs.strays.owed_files.Given as goal

abbrev pub invariant-loop-file : goal.invariant-loop-file
invariant-loop-file l = l.list ++ flat_map (λ e. strays.owed_item l.at l.clients (strays.file_of_number e.0) e.1.owner e.1.home) l.file-iterator ≡ strays.owed_files l.files l.at l.clients
