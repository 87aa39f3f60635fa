-- What a cut at the first such byte leaves of the pieces.
use Rattle.std.proofs.Common.{◌≡◌, ℕ, ◌+◌, ◌<◌, ◌≤◌, suc, Bool, true, false, not, cond, List, [], ◌∷◌, Some, None, refl, ap, ◌∙◌, take, drop, length, arith, eqb, position}
use Rattle.std.specs.List.{slice_split, position_or_len, onto_first}
use Rattle.std.proofs.lemmas.List.Splits.{slice_split_first, length-slice_split}
use Rattle.std.proofs.lemmas.Bool.Decides.{nat_tests}
use Rattle.next_grammar.specs.Words.{pieces}

-- no such byte
split_none : (p : ℕ → Bool) (xs : List ℕ) → length xs ≤ position_or_len p xs → slice_split p xs ≡ xs ∷ []
split_none p [] h = refl
split_none p (x ∷ xs) h =
    elim (p x) as (λ b. (length (x ∷ xs) ≤ cond (not b) (1 + position_or_len p xs) 0) → cond b ([] ∷ slice_split p xs) (onto_first x (slice_split p xs)) ≡ (x ∷ xs) ∷ []) [
      | true ↦ λ (g : suc (length xs) ≤ 0). absurd (omega arith)
      | false ↦ λ (g : suc (length xs) ≤ 1 + position_or_len p xs). (let e = split_none p xs (omega arith) in rw e refl)
    ] h

-- one piece, where the byte does not stand
pub pieces_none : (byte : ℕ) (xs : List ℕ) → position (λ b. eqb b byte) xs ≡ None → pieces byte xs ≡ xs ∷ []
unfolding pieces
pieces_none byte xs h = split_none (λ b. eqb b byte) xs (grind (arith, nat_tests))

-- the piece before the first such byte, and those behind it
pub pieces_some : (byte : ℕ) (xs : List ℕ) (i : ℕ) → position (λ b. eqb b byte) xs ≡ Some i → (i < length xs) × (pieces byte xs ≡ take i xs ∷ pieces byte (drop (i + 1) xs))
unfolding pieces
pieces_some byte xs i h =
    let lt : position_or_len (λ b. eqb b byte) xs < length xs = grind (arith, nat_tests) in
    let is : position_or_len (λ b. eqb b byte) xs ≡ i = grind (arith, nat_tests) in
    (omega arith, slice_split_first (λ b. eqb b byte) xs 0 lt ∙ ap (λ k. take k xs ∷ slice_split (λ b. eqb b byte) (drop (k + 1) xs)) is)

-- the pieces are never none
pub some_pieces : (byte : ℕ) (xs : List ℕ) → (part : List ℕ) × (more : List (List ℕ)) × (pieces byte xs ≡ part ∷ more)
unfolding pieces
some_pieces byte xs = by_pieces _ (slice_split (λ b. eqb b byte) xs) (length-slice_split (λ b. eqb b byte) xs) where
  by_pieces : (n : ℕ) (ps : List (List ℕ)) → length ps ≡ n + 1 → (part : List ℕ) × (more : List (List ℕ)) × (ps ≡ part ∷ more)
  by_pieces n [] e = absurd (omega arith)
  by_pieces n (p ∷ ps) e = (p, ps, refl)

pub ruleset cutting = (pieces_none, pieces_some)
