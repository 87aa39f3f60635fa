-- The finite maps of the service.
--     Names X      from a name to a value of X
--     Numbers X    from a number to a value of X
-- The rows of all directories of a place are one map of Names, under the key `row_key` of a directory and a name.
use Rattle.std.specs.declared.cmp.Ordering.{Ordering}
use Rattle.std.specs.Prelude.{ℕ, suc, List, [], ◌∷◌, map, Bool, false, if◌then◌else◌, ◌==◌}
use Rattle.std.specs.Ordering.{nat_cmp}
use Rattle.std.specs.Cmp.Lexicographic.{slice_cmp}
use Rattle.std.specs.FinMap.{FinMap, entries, from_entries}
use Rattle.next_ids.specs.declared.ids.DirId.{DirId}

abbrev pub Names : Type 0 → Type 0
Names X = FinMap (slice_cmp nat_cmp) X

abbrev pub Numbers : Type 0 → Type 0
Numbers X = FinMap nat_cmp X

abbrev pub row_key : DirId → List ℕ → List ℕ
row_key dir name = dir.0 ∷ name

-- the entries whose key lies in the directory, by their names
abbrev pub within : {X : Type 0} → ℕ → List (List ℕ × X) → List (List ℕ × X)
within d [] = []
within d (([], x) ∷ es) = within d es
within d ((k ∷ name, x) ∷ es) = if k == d then (name, x) ∷ within d es else within d es

-- how many elements pass the test
abbrev pub how_many : {X : Type 0} → (X → Bool) → List X → ℕ
how_many p [] = 0
how_many p (x ∷ xs) = if p x then suc (how_many p xs) else how_many p xs

-- whether a key lies in the directory
abbrev pub lies_in : ℕ → List ℕ → Bool
lies_in d [] = false
lies_in d (k ∷ name) = k == d

-- the map with f of each key and its value
abbrev pub map_values : {K X Y : Type 0} {R : K → K → Ordering} → (K → X → Y) → FinMap R X → FinMap R Y
map_values f m = from_entries (map (λ e. (e.0, f e.0 e.1)) (entries m))
