-- Sums of deltas and greatest times, in any order and at any cut.
use Rattle.std.proofs.Common.{◌≡◌, ℕ, suc, ◌+◌, ◌<◌, ◌≤◌, drop, drop-cons, add-one, get_or, length, List, [], ◌∷◌, ◌++◌, max, pos, negsuc, ℤ, ◌+ℤ◌, ◌-ℤ◌, Bool, false, refl, sym, ◌∙◌, ap, arith}
use Rattle.std.specs.Prelude.{sum_by, nat_lt}
use Rattle.std.specs.List.{list_any}
use Rattle.std.specs.List.Sorted.{IsPermutation}
use Rattle.std.proofs.Math.Nat.{le_antisymm, max_comm}
use Rattle.std.proofs.lemmas.Bool.Decides.{nat_tests}
use Rattle.std.proofs.lemmas.Int.{ints}
use Rattle.std.proofs.lemmas.List.Sums.{sum_by-cons}
use Rattle.std.proofs.lemmas.List.Sorted.{sum_by-IsPermutation, list_any-IsPermutation, IsPermutation-sym}
use Rattle.cfs_ids.specs.declared.attributes.Delta.{Delta}
use Rattle.cfs_ids.specs.Attributes.{total, latest}

pub total-append : (change : Delta → ℤ) (front rest : List Delta) → total change (front ++ rest) ≡ total change front +ℤ total change rest
total-append change [] rest = omega (arith, ints)
total-append change (delta ∷ front) rest = omega (arith, ints, total-append change front rest)

-- a loop's step: the delta at its index, and those behind
pub total-drop : (change : Delta → ℤ) (deltas : List Delta) (i : ℕ) (d : Delta) → i < length deltas → total change (drop i deltas) ≡ change (get_or deltas i d) +ℤ total change (drop (i + 1) deltas)
total-drop change deltas i d h = rw (drop-cons deltas i d h) (rw add-one refl)

-- an integer as far as it lies above 0, and below
above : ℤ → ℕ
above (pos n) = n
above (negsuc n) = 0

below : ℤ → ℕ
below (pos n) = 0
below (negsuc n) = suc n

apart : (z : ℤ) → z ≡ pos (above z) -ℤ pos (below z)
unfolding above below
apart (pos n) = omega (arith, ints)
apart (negsuc n) = omega (arith, ints)

total-parts : (change : Delta → ℤ) (deltas : List Delta) → total change deltas ≡ pos (sum_by (λ d. above (change d)) deltas) -ℤ pos (sum_by (λ d. below (change d)) deltas)
total-parts change [] = refl
total-parts change (delta ∷ deltas) =
    omega (arith, ints, apart (change delta), total-parts change deltas, sum_by-cons (λ d. above (change d)) delta deltas, sum_by-cons (λ d. below (change d)) delta deltas)

pub total-permuted : (change : Delta → ℤ) (deltas others : List Delta) → IsPermutation deltas others → total change others ≡ total change deltas
total-permuted change deltas others h =
    omega (arith, ints, total-parts change deltas, total-parts change others, sum_by-IsPermutation (λ d. above (change d)) deltas others h, sum_by-IsPermutation (λ d. below (change d)) deltas others h)

pub latest-later : (first time : ℕ) (deltas : List Delta) → latest (max first time) deltas ≡ max first (latest time deltas)
latest-later first time [] = refl
latest-later first time (delta ∷ deltas) = omega (arith, latest-later first time deltas)

pub latest-drop : (time : ℕ) (deltas : List Delta) (i : ℕ) (d : Delta) → i < length deltas → latest time (drop i deltas) ≡ latest (max time (get_or deltas i d).time) (drop (i + 1) deltas)
latest-drop time deltas i d h =
    rw (drop-cons deltas i d h) (rw add-one (rw (max_comm time (get_or deltas i d).time) (sym (latest-later (get_or deltas i d).time time (drop (suc i) deltas)))))

pub latest-append : (time : ℕ) (front rest : List Delta) → latest time (front ++ rest) ≡ latest (latest time front) rest
latest-append time [] rest = refl
latest-append time (delta ∷ front) rest =
    ap (max delta.time) (latest-append time front rest) ∙ sym (latest-later delta.time (latest time front) rest)

-- whether a delta is later than a time
abbrev is_after : ℕ → Delta → Bool
is_after most delta = nat_lt most delta.time

time-le : (time : ℕ) (deltas : List Delta) → time ≤ latest time deltas
time-le time [] = omega arith
time-le time (delta ∷ deltas) = omega (arith, time-le time deltas)

none_after : (most time : ℕ) (deltas : List Delta) → latest time deltas ≤ most → list_any (is_after most) deltas ≡ false
none_after most time [] h = refl
none_after most time (delta ∷ deltas) h =
    let rest : latest time deltas ≤ most = omega arith in
    grind (arith, nat_tests, none_after most time deltas rest)

latest-le : (most time : ℕ) (deltas : List Delta) → time ≤ most → list_any (is_after most) deltas ≡ false → latest time deltas ≤ most
latest-le most time [] h none = h
latest-le most time (delta ∷ deltas) h none = grind (arith, nat_tests, latest-le most time deltas h)

latest-below : (time : ℕ) (deltas others : List Delta) → IsPermutation deltas others → latest time others ≤ latest time deltas
latest-below time deltas others h =
    let most : ℕ = latest time deltas in
    let none = none_after most time deltas (omega arith) in
    latest-le most time others (time-le time deltas) (sym (list_any-IsPermutation (is_after most) deltas others h) ∙ none)

pub latest-permuted : (time : ℕ) (deltas others : List Delta) → IsPermutation deltas others → latest time others ≡ latest time deltas
latest-permuted time deltas others h =
    le_antisymm (latest-below time deltas others h) (latest-below time others deltas (IsPermutation-sym deltas others h))
