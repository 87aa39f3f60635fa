-- Rows kept directory by directory, seen as one map from a directory and a name.
use Rattle.std.specs.Prelude.{ℕ, List, [], ◌∷◌, ◌++◌, Option, Some, None}
use Rattle.std.specs.FinMap.{get, entries, from_entries}
use Rattle.next_ids.specs.Maps.{Names, Numbers}

module _ {X : Type 0} where
  -- the entries of a directory under their whole keys
  abbrev pub keyed : ℕ → List (List ℕ × X) → List (List ℕ × X)
  keyed d [] = []
  keyed d (r ∷ rs) = (d ∷ r.0, r.1) ∷ keyed d rs

  abbrev pub flattened : List (ℕ × Names X) → List (List ℕ × X)
  flattened [] = []
  flattened (e ∷ es) = keyed e.0 (entries e.1) ++ flattened es

  abbrev pub flat : Numbers (Names X) → Names X
  flat m = from_entries (flattened (entries m))

  -- what stands at a name of a directory
  abbrev pub found_in : Option (Names X) → List ℕ → Option X
  found_in None name = None
  found_in (Some names) name = get names name
