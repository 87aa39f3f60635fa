-- The debts of a place, kept by files and by directories, seen as one map under their whole keys.
use Rattle.std.specs.Prelude.{ℕ, List, [], ◌∷◌, ◌++◌}
use Rattle.std.specs.FinMap.{entries, from_entries}
use Rattle.next_ids.specs.Maps.{Names, Numbers}
use Rattle.next_steps.specs.declared.contents.Debt.{Debt}
use Rattle.next_table.specs.Flat.{keyed}
use Rattle.next_contents.specs.declared.debts.Debts.{Debts}

-- the entries of numbers under keys of one number each
abbrev pub single : {X : Type 0} → List (ℕ × X) → List (List ℕ × X)
single [] = []
single (e ∷ es) = (e.0 ∷ [], e.1) ∷ single es

-- files stand before directories
abbrev pub by_node : {X : Type 0} → (files dirs : List (ℕ × X)) → List (List ℕ × X)
by_node files dirs = keyed 0 (single files) ++ keyed 1 (single dirs)

abbrev pub owed : {X : Type 0} → (place : ℕ) → (files dirs : Numbers X) → Names X
owed place files dirs = from_entries (keyed place (by_node (entries files) (entries dirs)))

abbrev pub debts_of : Debts → Names Debt
debts_of debts = owed debts.place.0 debts.files debts.dirs
