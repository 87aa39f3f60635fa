-- When a device in memory fails: at the calls that it was told.
use Rattle.std.specs.Prelude.{ℕ, Bool, ◌==◌, List}
use Rattle.std.specs.List.{list_any}

-- the number of a call is among those that are to fail
abbrev pub is_told : List ℕ → ℕ → Bool
is_told fails call = list_any (λ n. n == call) fails
