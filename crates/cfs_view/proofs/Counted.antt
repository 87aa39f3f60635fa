-- At the start of a count, and while places are counted one by one.
use Rattle.std.proofs.Common.{◌≡◌, ℕ, ◌+◌, ◌≤◌, List, length, Bool, ap, arith}
use Rattle.cfs_ids.specs.Maps.{how_many}

pub count_start : {X : Type 0} (p : X → Bool) (es xs : List X) (most : ℕ) → es ≡ xs → length xs ≤ most → (0 + how_many p es ≡ how_many p xs) × (0 + length es ≤ most)
count_start p es xs most e h = (omega (arith, ap (how_many p) e), omega (arith, ap length e, h))
