-- Bytes that were read and not yet taken.
use Rattle.std.specs.Prelude.{ℕ, Bool, List}

pub record ReadAhead : Type 0 where
  pub bytes : List ℕ
  -- how many bytes the limit leaves, from the first of these on
  pub room : ℕ
  -- whether the end of input was told
  pub ended : Bool
