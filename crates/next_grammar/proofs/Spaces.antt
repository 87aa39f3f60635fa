-- A word begins at the first byte that is no space, and ends before the next space.
use Rattle.std.proofs.Common.{◌≡◌, ℕ, ◌+◌, ◌<◌, ◌≤◌, suc, Bool, true, false, not, cond, List, [], ◌∷◌, Some, None, refl, sym, ap, ◌∙◌, subst, drop, length, arith, eqb, get_or, position, nat_lt}
use Rattle.std.specs.List.{slice_split, position_or_len, onto_first}
use Rattle.std.proofs.lemmas.List.{drop_all, drop_more}
use Rattle.std.proofs.lemmas.List.Splits.{slice_split-cons_no}
use Rattle.std.proofs.lemmas.List.Sums.{passes_at_first}
use Rattle.std.proofs.lemmas.Bool.{cond-true, lt-ltb}
use Rattle.std.proofs.lemmas.Bool.Decides.{nat_tests}
use Rattle.next_grammar.specs.Words.{pieces, words}

-- where the first byte stands that is no space, or the length
abbrev start : List ℕ → ℕ
start xs = position_or_len (λ b. not (eqb b 32)) xs

-- a space in front is passed
words-space : (x : ℕ) (xs : List ℕ) → eqb x 32 ≡ true → words (x ∷ xs) ≡ words xs
unfolding words pieces
words-space x xs e = rw e refl

-- all spaces in front are passed
words-start : (xs : List ℕ) → words xs ≡ words (drop (start xs) xs)
words-start [] = refl
words-start (x ∷ xs) = by_test (eqb x 32) refl (words-start xs)
  where
    by_test : (b : Bool) → eqb x 32 ≡ b → words xs ≡ words (drop (start xs) xs) → words (x ∷ xs) ≡ words (drop (cond (not (not b)) (1 + start xs) 0) (x ∷ xs))
    by_test true e h =
        let one : suc (start xs) ≡ 1 + start xs = omega arith in
        words-space x xs e ∙ h ∙ ap (λ k. words (drop k (x ∷ xs))) one
    by_test false e h = refl

-- the first part has the byte that was put before it
onto_first-bytes : (x : ℕ) (parts : List (List ℕ)) (first : List ℕ) (more : List (List ℕ)) → onto_first x parts ≡ first ∷ more → 0 < length first
onto_first-bytes x [] first more h =
    let is : x ∷ [] ≡ first = cc in
    let some : 0 < length (x ∷ []) = omega arith in
    subst (λ (part : List ℕ). 0 < length part) is some
onto_first-bytes x (part ∷ parts) first more h =
    let is : x ∷ part ≡ first = cc in
    let some : 0 < length (x ∷ part) = omega arith in
    subst (λ (part : List ℕ). 0 < length part) is some

-- the first piece has the first byte, where that is no space
piece-bytes : (x : ℕ) (xs first : List ℕ) (more : List (List ℕ)) → eqb x 32 ≡ false → pieces 32 (x ∷ xs) ≡ first ∷ more → 0 < length first
unfolding pieces
piece-bytes x xs first more e h =
    onto_first-bytes x (slice_split (λ b. eqb b 32) xs) first more (sym (slice_split-cons_no (λ b. eqb b 32) x xs e) ∙ h)

-- the first piece from there on has bytes
start-bytes : (xs first : List ℕ) (more : List (List ℕ)) → start xs < length xs → pieces 32 (drop (start xs) xs) ≡ first ∷ more → 0 < length first
start-bytes xs first more lt h =
    let at : not (eqb (get_or xs (start xs) 0) 32) ≡ true = passes_at_first (λ b. not (eqb b 32)) xs 0 lt in
    let other : eqb (get_or xs (start xs) 0) 32 ≡ false = grind (arith, nat_tests) in
    piece-bytes (get_or xs (start xs) 0) (drop (start xs + 1) xs) first more other (ap (pieces 32) (sym (drop_more xs (start xs) 0 lt)) ∙ h)

-- a first piece that has bytes is the first word
words-piece : (xs first more : List ℕ) → pieces 32 xs ≡ first ∷ pieces 32 more → 0 < length first → words xs ≡ first ∷ words more
unfolding words
words-piece xs first more h some = rw h (cond-true (nat_lt 0 (length first)) _ _ (lt-ltb 0 (length first) some))

-- an only piece that has bytes is the only word
words-whole : (xs first : List ℕ) → pieces 32 xs ≡ first ∷ [] → 0 < length first → words xs ≡ first ∷ []
unfolding words
words-whole xs first h some = rw h (cond-true (nat_lt 0 (length first)) _ _ (lt-ltb 0 (length first) some))

-- no bytes have no word
words-nil : words [] ≡ []
unfolding words pieces
words-nil = refl

module _ (xs : List ℕ) (i : ℕ) (h : position (λ b. not (eqb b 32)) xs ≡ Some i) where
  start-is : start xs ≡ i
  start-is = grind (arith, nat_tests)

  start-lt : start xs < length xs
  start-lt = grind (arith, nat_tests)

  words-from : words xs ≡ words (drop i xs)
  words-from = words-start xs ∙ ap (λ k. words (drop k xs)) start-is

  first-bytes : (first : List ℕ) (more : List (List ℕ)) → pieces 32 (drop i xs) ≡ first ∷ more → 0 < length first
  first-bytes first more cut = start-bytes xs first more start-lt (ap (λ k. pieces 32 (drop k xs)) start-is ∙ cut)

  -- a space stands behind the word
  pub words-cut : (first more : List ℕ) → pieces 32 (drop i xs) ≡ first ∷ pieces 32 more → words xs ≡ first ∷ words more
  words-cut first more cut = words-from ∙ words-piece (drop i xs) first more cut (first-bytes first (pieces 32 more) cut)

  -- nothing stands behind the word
  pub words-last : pieces 32 (drop i xs) ≡ drop i xs ∷ [] → words xs ≡ drop i xs ∷ words []
  words-last cut =
      words-from ∙ words-whole (drop i xs) (drop i xs) cut (first-bytes (drop i xs) [] cut) ∙ ap (λ ws. drop i xs ∷ ws) (sym words-nil)

-- no word
pub words-none : (xs : List ℕ) → position (λ b. not (eqb b 32)) xs ≡ None → words xs ≡ []
words-none xs h =
    let long : length xs ≤ start xs = grind (arith, nat_tests) in
    words-start xs ∙ ap words (drop_all (start xs) xs long) ∙ words-nil
