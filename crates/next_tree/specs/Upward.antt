-- The way upward in a namespace.
use Rattle.std.specs.Prelude.{ℕ, Bool, true, false, List, [], ◌∷◌, Option, Some, None, if◌then◌else◌}
use Rattle.std.specs.List.{list_any}
use Rattle.std.specs.FinMap.{entries}
use Rattle.next_ids.specs.declared.call.Call.{Call}
use Rattle.next_ids.specs.declared.call.Call.TheVariants.{Rename}
use Rattle.next_ids.specs.declared.ids.DirId.{DirId}
use Rattle.next_ids.specs.Namespace.{Directory, names_dir}

-- the first of the directories whose list names this one
abbrev pub parent_among : DirId → List (ℕ × Directory) → Option DirId
parent_among dir [] = None
parent_among dir (d ∷ ds) = if list_any (λ e. names_dir dir.0 e.1) (entries d.1.names) then Some (record { 0 = d.0 }) else parent_among dir ds

-- the call is answered by a way upward
abbrev pub goes_upward : Call → Bool
goes_upward (Rename dir name to_dir to_name) = true
goes_upward _ = false
