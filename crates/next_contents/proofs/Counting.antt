-- How many locks pass a test is a number with room to add.
use Rattle.std.proofs.Common.{◌≡◌, ◌≤◌, ◌<◌, ◌+◌, ◌^◌, ℕ, suc, List, [], ◌∷◌, length, Bool, true, false, cond, arith}
use Rattle.std.specs.List.{filter}
use Rattle.std.specs.declared.cmp.Ordering.{Ordering}
use Rattle.std.specs.FinMap.{FinMap, entries, len, len-entries}

filter-few : {X : Type 0} (p : X → Bool) (xs : List X) → length (filter p xs) ≤ length xs
filter-few p [] = omega arith
filter-few p (x ∷ xs) = by_test (p x) (filter-few p xs)
  where
    by_test : (b : Bool) → length (filter p xs) ≤ length xs → length (cond b (x ∷ filter p xs) (filter p xs)) ≤ suc (length xs)
    by_test true few = omega arith
    by_test false few = omega arith

-- a part of those of a map that pass
pub part-few : {K X : Type 0} {R : K → K → Ordering} (p : K × X → Bool) (m : FinMap R X) (n rest : ℕ) → n + rest ≡ length (filter p (entries m)) → len m < 2 ^ 63 → n < 2 ^ 63
part-few p m n rest part few = let all = filter-few p (entries m) in let size = len-entries m in omega arith
