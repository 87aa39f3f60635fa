-- The bytes within the limit.
use Rattle.std.proofs.Common.{◌≡◌, ℕ, ◌+◌, nat_le, List, [], ◌∷◌, zero, suc, add-one, take, length, refl, ap, arith}
use Rattle.std.proofs.lemmas.List.{length-take}
use Rattle.std.proofs.lemmas.Bool.Decides.{nat_tests}
use Rattle.next_script.specs.Scripts.{script_of, most_bytes}

take_within : (n : ℕ) (xs : List ℕ) → take n (take (suc n) xs) ≡ take n xs
take_within zero xs = refl
take_within (suc n) [] = refl
take_within (suc n) (x ∷ xs) = ap (λ l. x ∷ l) (take_within n xs)

take-take_more : (n : ℕ) (xs : List ℕ) → take n (take (n + 1) xs) ≡ take n xs
take-take_more n xs = rw (add-one n) (take_within n xs)

within_more : (n : ℕ) (xs : List ℕ) → nat_le (length (take (n + 1) xs)) n ≡ nat_le (length xs) n
within_more n xs = let e = length-take (n + 1) xs in grind (arith, nat_tests)

-- the limit is met within the first bytes past it
pub script_of-take : (bytes : List ℕ) → script_of (take (most_bytes + 1) bytes) ≡ script_of bytes
unfolding script_of
script_of-take bytes = rw (take-take_more most_bytes bytes, within_more most_bytes bytes) refl
