-- A walk through the entries of a map, from key to key.
use Rattle.std.specs.Prelude.{Bool, true, List, [], ◌∷◌, Option, Some, None, if◌then◌else◌}
use Rattle.std.specs.declared.cmp.Ordering.{Ordering}
use Rattle.std.specs.Ordering.{is_lt}

module _ {K : Type 0} (R : K → K → Ordering) where
  -- whether a key is above the one that the walk is at; before the first it is at none
  abbrev pub is_after : Option K → K → Bool
  is_after None key = true
  is_after (Some at) key = is_lt (R at key)

  -- the entries that are left of a walk
  abbrev pub entries_after : {X : Type 0} → Option K → List (K × X) → List (K × X)
  entries_after at [] = []
  entries_after at (e ∷ es) = if is_after at e.0 then e ∷ entries_after at es else entries_after at es

-- the first entry
abbrev pub first_of : {X : Type 0} → List X → Option X
first_of [] = None
first_of (x ∷ xs) = Some x
