-- Bytes none of which is bad are all allowed.
use Rattle.std.proofs.Common.{◌≡◌, ℕ, ◌<◌, ◌≤◌, suc, ◌+◌, Bool, true, false, cond, List, [], ◌∷◌, length, refl, arith}
use Rattle.std.specs.Prelude.{not, ◌&&◌, None}
use Rattle.std.specs.List.{list_all, position, position_or_len}
use Rattle.std.proofs.lemmas.Bool.Decides.{nat_tests}
use Rattle.std.specs.Prelude.{nat_le, nat_lt}
use Rattle.next_ids.specs.Names.{is_allowed, is_name, first_bad}

all_pass : (p : ℕ → Bool) (xs : List ℕ) → length xs ≤ position_or_len (λ b. not (p b)) xs → list_all p xs ≡ true
all_pass p [] h = refl
all_pass p (x ∷ xs) h = by_test (p x) h (all_pass p xs)
  where
    by_test : (b : Bool) → suc (length xs) ≤ cond (not (not b)) (1 + position_or_len (λ b. not (p b)) xs) 0 → (length xs ≤ position_or_len (λ b. not (p b)) xs → list_all p xs ≡ true) → (b && list_all p xs) ≡ true
    by_test true h rest = rest (omega arith)
    by_test false h rest = absurd (omega arith)

pub list_all-from_position : (p : ℕ → Bool) (xs : List ℕ) → position (λ b. not (p b)) xs ≡ None → list_all p xs ≡ true
list_all-from_position p xs h = all_pass p xs (grind (arith, nat_tests))

pub is_name-from_tests : (xs : List ℕ) → 0 < length xs → length xs ≤ 255 → first_bad xs ≡ None → is_name xs ≡ true
is_name-from_tests xs some few none = let all = list_all-from_position is_allowed xs none in by_tests (nat_lt 0 (length xs)) refl (nat_le (length xs) 255) refl (list_all is_allowed xs) all
  where
    by_tests : (a : Bool) → nat_lt 0 (length xs) ≡ a → (b : Bool) → nat_le (length xs) 255 ≡ b → (e : Bool) → e ≡ true → ((a && b) && e) ≡ true
    by_tests true h true i true j = refl
    by_tests true h true i false j = j
    by_tests true h false i e j = grind (arith, nat_tests)
    by_tests false h b i e j = grind (arith, nat_tests)
