-- More digits say no less.
use Rattle.std.proofs.Common.{◌≡◌, ℕ, ◌+◌, ◌-◌, ◌*◌, ◌≤◌, List, [], ◌∷◌, fold, take, drop, ap, refl, arith, ◌<◌, get_or, length}
use Rattle.std.proofs.lemmas.List.{take-append-drop, take_more}
use Rattle.std.proofs.lemmas.Grind.{fold-append}
use Rattle.next_grammar.specs.Numbers.{value}

grows : (n : ℕ) (xs : List ℕ) → n ≤ fold (λ n b. 10 * n + (b - 48)) n xs
grows n [] = omega arith
grows n (x ∷ xs) = let h = grows (10 * n + (x - 48)) xs in omega (arith, h)

pub value-take : (xs : List ℕ) (i : ℕ) → value (take i xs) ≤ value xs
value-take xs i = let e = ap value (take-append-drop i xs) in let h = grows (value (take i xs)) (drop i xs) in
    rw (← e, fold-append (λ (n : ℕ) (b : ℕ). 10 * n + (b - 48)) 0 (take i xs) (drop i xs)) h

-- one more digit
pub value-more : (xs : List ℕ) (i : ℕ) → i < length xs → value (take (i + 1) xs) ≡ 10 * value (take i xs) + (get_or xs i 0 - 48)
value-more xs i h = rw (take_more xs i 0 h, fold-append (λ (n : ℕ) (b : ℕ). 10 * n + (b - 48)) 0 (take i xs) (get_or xs i 0 ∷ [])) refl
