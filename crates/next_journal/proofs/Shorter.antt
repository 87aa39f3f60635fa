-- A list without its last element is no longer than before.
use Rattle.std.proofs.Common.{◌≡◌, ◌≤◌, List, [], ◌∷◌, ◌++◌, length, refl, ap, arith, length-append}

-- a list with an element has a last one
ends : {X : Type 0} (x : X) (xs : List X) → (kept : List X) × ((last : X) × (x ∷ xs ≡ kept ++ last ∷ []))
ends x [] = ([], (x, refl))
ends x (y ∷ xs) = let e = ends y xs in (x ∷ e.0, (e.1.0, ap (λ l. x ∷ l) e.1.1))

pub cut-shorter : {X : Type 0} (xs ys : List X) → ((kept : List X) → (last : X) → xs ≡ kept ++ last ∷ [] → ys ≡ kept) → (xs ≡ [] → ys ≡ []) → length ys ≤ length xs
cut-shorter [] ys cut empty = let none = ap length (empty refl) in omega arith
cut-shorter (x ∷ xs) ys cut empty =
    let e = ends x xs in
    let all = simp length-append at (ap length e.1.1) in
    let fewer = ap length (cut e.0 e.1.0 e.1.1) in
    omega arith
