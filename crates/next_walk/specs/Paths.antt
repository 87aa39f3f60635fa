-- Paths whose components have bytes.
use Rattle.std.specs.Prelude.{ℕ, nat_lt, Bool, ◌&&◌, List, length}
use Rattle.std.specs.List.{list_all}

-- no component of the path is empty; a path without components is the root
abbrev pub is_filled : List (List ℕ) → Bool
is_filled path = list_all (λ component. nat_lt 0 (length component)) path

-- one component or more, and none of them empty
abbrev pub names_entry : List (List ℕ) → Bool
names_entry path = nat_lt 0 (length path) && is_filled path
