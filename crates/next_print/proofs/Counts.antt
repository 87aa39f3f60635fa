-- Counts along a list.
use Rattle.std.proofs.Common.{◌≡◌, ℕ, zero, suc, ◌+◌, ◌<◌, ◌≤◌, List, [], ◌∷◌, length, take, get_or, Bool, true, false, cond, refl, ap, add-one, arith}
use Rattle.next_ids.specs.Maps.{how_many}

how_many-suc : {X : Type 0} (p : X → Bool) (xs : List X) (i : ℕ) (d : X) → i < length xs → how_many p (take (suc i) xs) ≡ how_many p (take i xs) + cond (p (get_or xs i d)) 1 0
how_many-suc p [] i d h = absurd (omega (arith, h))
how_many-suc p (x ∷ xs) zero d h = by_test (p x)
  where
    by_test : (b : Bool) → cond b 1 0 ≡ 0 + cond b 1 0
    by_test true = refl
    by_test false = refl
how_many-suc p (x ∷ xs) (suc i) d h = by_test (p x) (how_many-suc p xs i d (omega (arith, h)))
  where
    by_test : (b : Bool) → how_many p (take (suc i) xs) ≡ how_many p (take i xs) + cond (p (get_or xs i d)) 1 0
        → cond b (suc (how_many p (take (suc i) xs))) (how_many p (take (suc i) xs)) ≡ cond b (suc (how_many p (take i xs))) (how_many p (take i xs)) + cond (p (get_or xs i d)) 1 0
    by_test true e = omega (arith, e)
    by_test false e = e

how_many-take : {X : Type 0} (p : X → Bool) (xs : List X) (i : ℕ) (d : X) → i < length xs → how_many p (take (i + 1) xs) ≡ how_many p (take i xs) + cond (p (get_or xs i d)) 1 0
how_many-take p xs i d h = rw (add-one i) (how_many-suc p xs i d h)

module _ {X : Type 0} (p : X → Bool) (xs : List X) (i : ℕ) (x : X) (count : ℕ) (at : i < length xs) (is : x ≡ get_or xs i x) (so_far : (count ≡ how_many p (take i xs)) × (count ≤ i)) where
  -- the next is counted
  pub count-more : p x ≡ true → (count + 1 ≡ how_many p (take (i + 1) xs)) × (count + 1 ≤ i + 1)
  count-more h = (omega (arith, so_far.0, how_many-take p xs i x at, ap {B = ℕ} (λ b. cond b 1 0) h, ap {B = ℕ} (λ y. cond (p y) 1 0) is), omega (arith, so_far.1))

  -- the next isn't
  pub count-same : p x ≡ false → (count ≡ how_many p (take (i + 1) xs)) × (count ≤ i + 1)
  count-same h = (omega (arith, so_far.0, how_many-take p xs i x at, ap {B = ℕ} (λ b. cond b 1 0) h, ap {B = ℕ} (λ y. cond (p y) 1 0) is), omega (arith, so_far.1))
