-- A map that is made entry by entry.
use Rattle.std.specs.Prelude.{List, [], ◌∷◌, Option, Some, None}
use Rattle.std.specs.declared.cmp.Ordering.{Ordering}
use Rattle.std.specs.FinMap.{FinMap, insert}

module _ {K Y : Type 0} {R : K → K → Ordering} where
  -- the map with one more value, if there is one
  abbrev pub with_value : FinMap R Y → K → Option Y → FinMap R Y
  with_value m k None = m
  with_value m k (Some y) = insert m k y

module _ {K X Y : Type 0} {R : K → K → Ordering} where
  -- the map with what `value` gives for each entry in turn
  abbrev pub with_each : (K → X → Option Y) → FinMap R Y → List (K × X) → FinMap R Y
  with_each value m [] = m
  with_each value m (e ∷ es) = with_each value (with_value m e.0 (value e.0 e.1)) es
