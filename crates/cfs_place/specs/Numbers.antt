-- A number of a list.
use Rattle.std.specs.Prelude.{ℕ}
use Rattle.cfs_place.specs.declared.numbers.Number.{Number}

-- a value, with the number of its maker
abbrev pub number : ℕ → ℕ → Number
number by value = record { by = by; value = value }
