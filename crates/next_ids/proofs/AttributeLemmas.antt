-- Sums of deltas and latest times, in any order and at any cut.
use Rattle.std.proofs.Common.{◌≡◌, ℕ, suc, ◌+◌, ◌<◌, drop, drop-cons, add-one, get_or, length, List, [], ◌∷◌, ◌++◌, pos, negsuc, ℤ, ◌+ℤ◌, ◌-ℤ◌, Bool, true, false, refl, sym, ◌∙◌, ap, arith}
use Rattle.std.specs.Prelude.{sum_by, ◌||◌, if◌then◌else◌}
use Rattle.std.specs.List.{list_any}
use Rattle.std.specs.List.Sorted.{IsPermutation}
use Rattle.std.proofs.lemmas.Bool.Decides.{nat_tests}
use Rattle.std.proofs.lemmas.Int.{ints}
use Rattle.std.proofs.lemmas.List.Sums.{sum_by-cons}
use Rattle.std.proofs.lemmas.List.Sorted.{sum_by-IsPermutation, list_any-IsPermutation, IsPermutation-sym}
use Rattle.next_ids.specs.declared.attributes.Delta.{Delta}
use Rattle.next_ids.specs.declared.time.Ts.{Ts}
use Rattle.next_ids.specs.Times.{is_before, later}
use Rattle.next_ids.specs.Attributes.{total, latest}
use Rattle.next_ids.proofs.TimeLemmas.{neither_before, not_before-trans, later-comm, later-assoc, later-first, later-second}

pub total-append : (change : Delta → ℤ) (front rest : List Delta) → total change (front ++ rest) ≡ total change front +ℤ total change rest
total-append change [] rest = omega (arith, ints)
total-append change (delta ∷ front) rest = omega (arith, ints, total-append change front rest)

-- a loop's step: the delta at its index, and those behind
pub total-drop : (change : Delta → ℤ) (deltas : List Delta) (i : ℕ) (d : Delta) → i < length deltas → total change (drop i deltas) ≡ change (get_or deltas i d) +ℤ total change (drop (i + 1) deltas)
total-drop change deltas i d h = rw (drop-cons deltas i d h) (rw add-one refl)

-- an integer as far as it lies above 0, and below
above : ℤ → ℕ
above (pos n) = n
above (negsuc n) = 0

below : ℤ → ℕ
below (pos n) = 0
below (negsuc n) = suc n

apart : (z : ℤ) → z ≡ pos (above z) -ℤ pos (below z)
unfolding above below
apart (pos n) = omega (arith, ints)
apart (negsuc n) = omega (arith, ints)

total-parts : (change : Delta → ℤ) (deltas : List Delta) → total change deltas ≡ pos (sum_by (λ d. above (change d)) deltas) -ℤ pos (sum_by (λ d. below (change d)) deltas)
total-parts change [] = refl
total-parts change (delta ∷ deltas) =
    omega (arith, ints, apart (change delta), total-parts change deltas, sum_by-cons (λ d. above (change d)) delta deltas, sum_by-cons (λ d. below (change d)) delta deltas)

pub total-permuted : (change : Delta → ℤ) (deltas others : List Delta) → IsPermutation deltas others → total change others ≡ total change deltas
total-permuted change deltas others h =
    omega (arith, ints, total-parts change deltas, total-parts change others, sum_by-IsPermutation (λ d. above (change d)) deltas others h, sum_by-IsPermutation (λ d. below (change d)) deltas others h)

pub latest-later : (first time : Ts) (deltas : List Delta) → latest (later first time) deltas ≡ later first (latest time deltas)
latest-later first time [] = refl
latest-later first time (delta ∷ deltas) =
    ap (later delta.time) (latest-later first time deltas)
    ∙ sym (later-assoc delta.time first (latest time deltas))
    ∙ ap (λ t. later t (latest time deltas)) (later-comm delta.time first)
    ∙ later-assoc first delta.time (latest time deltas)

pub latest-drop : (time : Ts) (deltas : List Delta) (i : ℕ) (d : Delta) → i < length deltas → latest time (drop i deltas) ≡ latest (later time (get_or deltas i d).time) (drop (i + 1) deltas)
latest-drop time deltas i d h =
    rw (drop-cons deltas i d h) (rw add-one (rw (later-comm time (get_or deltas i d).time) (sym (latest-later (get_or deltas i d).time time (drop (suc i) deltas)))))

pub latest-append : (time : Ts) (front rest : List Delta) → latest time (front ++ rest) ≡ latest (latest time front) rest
latest-append time [] rest = refl
latest-append time (delta ∷ front) rest =
    ap (later delta.time) (latest-append time front rest) ∙ sym (latest-later delta.time (latest time front) rest)

-- whether a delta is later than a time
abbrev is_after : Ts → Delta → Bool
is_after most delta = is_before most delta.time

-- the latest of all is not before any of them
time-not_after : (time : Ts) (deltas : List Delta) → is_before (latest time deltas) time ≡ false
time-not_after time [] = grind (arith, nat_tests)
time-not_after time (delta ∷ deltas) =
    not_before-trans (latest time (delta ∷ deltas)) (latest time deltas) time (later-second delta.time (latest time deltas)) (time-not_after time deltas)

none_after : (most time : Ts) (deltas : List Delta) → is_before most (latest time deltas) ≡ false → list_any (is_after most) deltas ≡ false
none_after most time [] h = refl
none_after most time (delta ∷ deltas) h =
    let all = latest time deltas in
    let this : is_before most delta.time ≡ false = not_before-trans most (later delta.time all) delta.time h (later-first delta.time all) in
    let rest : is_before most all ≡ false = not_before-trans most (later delta.time all) all h (later-second delta.time all) in
    rw this (none_after most time deltas rest)

latest-not_after : (most time : Ts) (deltas : List Delta) → is_before most time ≡ false → list_any (is_after most) deltas ≡ false → is_before most (latest time deltas) ≡ false
latest-not_after most time [] h none = h
latest-not_after most time (delta ∷ deltas) h none =
    by_test (is_before most delta.time) refl none (latest-not_after most time deltas h)
  where
    by_later : (x : Bool) → is_before most delta.time ≡ false → is_before most (latest time deltas) ≡ false → is_before most (if x then latest time deltas else delta.time) ≡ false
    by_later true e i = i
    by_later false e i = e

    by_test : (x : Bool) → is_before most delta.time ≡ x → (x || list_any (is_after most) deltas) ≡ false → (list_any (is_after most) deltas ≡ false → is_before most (latest time deltas) ≡ false) → is_before most (later delta.time (latest time deltas)) ≡ false
    by_test true e h rest = cc
    by_test false e h rest = by_later (is_before delta.time (latest time deltas)) e (rest h)

latest-below : (time : Ts) (deltas others : List Delta) → IsPermutation deltas others → is_before (latest time deltas) (latest time others) ≡ false
latest-below time deltas others h =
    let most : Ts = latest time deltas in
    let itself : is_before most most ≡ false = grind (arith, nat_tests) in
    let none = none_after most time deltas itself in
    latest-not_after most time others (time-not_after time deltas) (sym (list_any-IsPermutation (is_after most) deltas others h) ∙ none)

pub latest-permuted : (time : Ts) (deltas others : List Delta) → IsPermutation deltas others → latest time others ≡ latest time deltas
latest-permuted time deltas others h =
    neither_before (latest time others) (latest time deltas) (latest-below time others deltas (IsPermutation-sym deltas others h)) (latest-below time deltas others h)
