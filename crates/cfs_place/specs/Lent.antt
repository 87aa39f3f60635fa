-- What a value that is out ends as, once a `&mut` to it has ended.
use Rattle.cfs_place.specs.declared.holding.HeldFrom.{HeldFrom}

-- the same with another value
abbrev pub with_value : {C T : Type 0} → HeldFrom C T → T → HeldFrom C T
with_value held x = record held { value = x }
