-- Maps of names in a map of numbers.
use Rattle.std.specs.Prelude.{ℕ, List, Option, Some, None, if◌then◌else◌, ◌==◌}
use Rattle.std.specs.FinMap.{empty, get, insert, remove, len}
use Rattle.next_ids.specs.Maps.{Names, Numbers}

-- the names at a key, none where the key isn't there
abbrev pub names_of : {X : Type 0} → Option (Names X) → Names X
names_of None = empty
names_of (Some names) = names

-- the map with a value at a name of a key
abbrev pub with_name : {X : Type 0} → Numbers (Names X) → ℕ → List ℕ → X → Numbers (Names X)
with_name m key name value = insert m key (insert (names_of (get m key)) name value)

-- the map with these names at a key, without the key where there are none
abbrev pub with_names : {X : Type 0} → Numbers (Names X) → ℕ → Names X → Numbers (Names X)
with_names m key names = if len names == 0 then remove m key else insert m key names

-- the map without a name of a key
abbrev pub without_name : {X : Type 0} → Numbers (Names X) → ℕ → List ℕ → Numbers (Names X)
without_name m key name = with_names m key (remove (names_of (get m key)) name)
