-- Where the first line of a text ends.
use Rattle.std.proofs.Common.{◌≡◌, ◌≤◌, ◌+◌, ℕ, Bool, true, false, List, [], ◌∷◌, ◌++◌, length, take, arith, refl, ap, one-add}
use Rattle.std.proofs.lemmas.Bool.Decides.{nat_tests}
use Rattle.std.specs.List.{position_or_len, position}
use Rattle.std.specs.Option.{unwrap_or}
use Rattle.std.proofs.lemmas.List.Sums.{prefix_len-le-length}
use Rattle.std.specs.Prelude.{◌==◌, nat_lt, not, cond}
use Rattle.next_io.specs.Lines.{first_line, behind_line, has_end}

-- a text that goes on behind bytes without LF

pub first_line-onto : (xs ys : List ℕ) → has_end xs ≡ false → first_line (xs ++ ys) ≡ xs ++ first_line ys
unfolding first_line has_end
first_line-onto [] ys h = refl
first_line-onto (b ∷ xs) ys h = grind (arith, nat_tests, first_line-onto xs ys)

pub behind_line-onto : (xs ys : List ℕ) → has_end xs ≡ false → behind_line (xs ++ ys) ≡ behind_line ys
unfolding behind_line has_end
behind_line-onto [] ys h = refl
behind_line-onto (b ∷ xs) ys h = grind (arith, nat_tests, behind_line-onto xs ys)

pub has_end-onto : (xs ys : List ℕ) → has_end xs ≡ false → has_end (xs ++ ys) ≡ has_end ys
unfolding has_end
has_end-onto [] ys h = refl
has_end-onto (b ∷ xs) ys h = grind (arith, nat_tests, has_end-onto xs ys)

-- a text that goes on behind bytes with LF

pub first_line-whole : (xs ys : List ℕ) → has_end xs ≡ true → first_line (xs ++ ys) ≡ first_line xs
unfolding first_line has_end
first_line-whole [] ys h = cc
first_line-whole (b ∷ xs) ys h = grind (arith, nat_tests, first_line-whole xs ys)

pub behind_line-whole : (xs ys : List ℕ) → has_end xs ≡ true → behind_line (xs ++ ys) ≡ behind_line xs ++ ys
unfolding behind_line has_end
behind_line-whole [] ys h = cc
behind_line-whole (b ∷ xs) ys h = grind (arith, nat_tests, behind_line-whole xs ys)

-- bytes without LF

pub first_line-none : (xs : List ℕ) → has_end xs ≡ false → first_line xs ≡ xs
unfolding first_line has_end
first_line-none [] h = refl
first_line-none (b ∷ xs) h = grind (arith, nat_tests, first_line-none xs)

pub behind_line-none : (xs : List ℕ) → has_end xs ≡ false → behind_line xs ≡ []
unfolding behind_line has_end
behind_line-none [] h = refl
behind_line-none (b ∷ xs) h = grind (arith, nat_tests, behind_line-none xs)

-- the first line of a text, up to its LF

pub first_line-at : (xs : List ℕ) → take (position_or_len (λ b. b == 10) xs) xs ≡ first_line xs
unfolding first_line
first_line-at [] = refl
first_line-at (b ∷ xs) = by_test (b == 10) (first_line-at xs)
  where
    by_test : (is_end : Bool) → take (position_or_len (λ b. b == 10) xs) xs ≡ first_line xs → take (cond (not is_end) (1 + position_or_len (λ b. b == 10) xs) 0) (b ∷ xs) ≡ cond is_end [] (b ∷ first_line xs)
    by_test true same = refl
    by_test false same = rw one-add (ap (λ line. b ∷ line) same)

pub has_end-at : (xs : List ℕ) → has_end xs ≡ nat_lt (position_or_len (λ b. b == 10) xs) (length xs)
unfolding has_end
has_end-at [] = refl
has_end-at (b ∷ xs) = grind (arith, nat_tests, has_end-at xs)

pub first_line-part : (xs : List ℕ) → first_line (take (position_or_len (λ b. b == 10) xs + 1) xs) ≡ first_line xs
unfolding first_line
first_line-part [] = refl
first_line-part (b ∷ xs) = grind (arith, nat_tests, first_line-part xs)

pub behind_line-part : (xs : List ℕ) → behind_line (take (position_or_len (λ b. b == 10) xs + 1) xs) ≡ []
unfolding behind_line
behind_line-part [] = refl
behind_line-part (b ∷ xs) = grind (arith, nat_tests, behind_line-part xs)

pub has_end-part : (xs : List ℕ) → has_end (take (position_or_len (λ b. b == 10) xs + 1) xs) ≡ has_end xs
unfolding has_end
has_end-part [] = refl
has_end-part (b ∷ xs) = grind (arith, nat_tests, has_end-part xs)

-- how long what stands behind the first line is

pub length-behind_line : (xs : List ℕ) → length (behind_line xs) ≤ length xs
unfolding behind_line
length-behind_line [] = omega arith
length-behind_line (b ∷ xs) = grind (arith, nat_tests, length-behind_line xs)

pub line_len-bound : (xs : List ℕ) → position_or_len (λ b. b == 10) xs ≤ length xs
line_len-bound xs = prefix_len-le-length (λ b. not (b == 10)) xs

pub unwrapped-line_len : (xs : List ℕ) → unwrap_or (position (λ b. b == 10) xs) (length xs) ≡ position_or_len (λ b. b == 10) xs
unwrapped-line_len xs = grind (arith, nat_tests, line_len-bound xs)

pub ruleset cutting = (line_len-bound, unwrapped-line_len, first_line-at, has_end-at, first_line-part, behind_line-part, has_end-part)
