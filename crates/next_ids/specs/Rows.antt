-- Rows by rising names.
use Rattle.std.specs.Prelude.{◌≡◌, ℕ, List, [], ◌∷◌}
use Rattle.std.specs.declared.cmp.Ordering.TheVariants.{Less}
use Rattle.std.specs.Ordering.{nat_cmp}
use Rattle.std.specs.Cmp.Lexicographic.{slice_cmp}
use Rattle.next_ids.specs.declared.ids.Node.{Node}

-- the name is above those of the rows
abbrev pub IsAbove : List (List ℕ × Node) → List ℕ → Type 0
IsAbove [] name = Unit {0}
IsAbove (row ∷ rows) name = (slice_cmp nat_cmp row.0 name ≡ Less) × IsAbove rows name
