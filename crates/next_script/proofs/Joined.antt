-- The pieces of bytes make them up again.
use Rattle.std.proofs.Common.{◌≡◌, ℕ, Bool, true, false, cond, List, [], ◌∷◌, ◌++◌, refl, ap, sym, ◌∙◌, append_assoc, append-nil, arith, eqb}
use Rattle.std.specs.List.{slice_split, onto_first, flat_map}
use Rattle.std.proofs.lemmas.Bool.Decides.{nat_tests}
use Rattle.next_grammar.specs.Words.{pieces}
use Rattle.next_script.specs.Pieces.{all_but_last, last_of, lines, rest_of_lines}
use Rattle.next_grammar.proofs.Cutting.{some_pieces}

-- the pieces with the byte between them
abbrev pub joined : ℕ → List (List ℕ) → List ℕ
joined byte [] = []
joined byte (first ∷ rest) = first ++ flat_map (λ part. byte ∷ part) rest

some_split : (byte : ℕ) (xs : List ℕ) → (part : List ℕ) × (more : List (List ℕ)) × (slice_split (λ b. eqb b byte) xs ≡ part ∷ more)
unfolding pieces
some_split byte xs = some_pieces byte xs

joined-split : (byte : ℕ) (xs : List ℕ) → joined byte (slice_split (λ b. eqb b byte) xs) ≡ xs
joined-split byte [] = refl
joined-split byte (x ∷ xs) = by_test (eqb x byte) refl (slice_split (λ b. eqb b byte) xs) (some_split byte xs) (joined-split byte xs)
  where
    by_test : (b : Bool) → eqb x byte ≡ b → (ps : List (List ℕ)) → (part : List ℕ) × (more : List (List ℕ)) × (ps ≡ part ∷ more) → joined byte ps ≡ xs → joined byte (cond b ([] ∷ ps) (onto_first x ps)) ≡ x ∷ xs
    by_test true t [] some h = let no = some.2 in cc
    by_test true t (p ∷ ps) some h = let same : x ≡ byte = grind (arith, nat_tests) in rw same (ap (λ l. byte ∷ l) h)
    by_test false t [] some h = let no = some.2 in cc
    by_test false t (p ∷ ps) some h = ap (λ l. x ∷ l) h

pub joined-pieces : (byte : ℕ) (xs : List ℕ) → joined byte (pieces byte xs) ≡ xs
unfolding pieces
joined-pieces byte xs = joined-split byte xs

joined-lines : (p : List ℕ) (ps : List (List ℕ)) → joined 10 (p ∷ ps) ≡ flat_map (λ line. line ++ 10 ∷ []) (all_but_last (p ∷ ps)) ++ last_of (p ∷ ps)
joined-lines p [] = append-nil p
joined-lines p (q ∷ qs) =
    sym (append_assoc p (10 ∷ []) (joined 10 (q ∷ qs))) ∙ ap (λ l. (p ++ 10 ∷ []) ++ l) (joined-lines q qs) ∙ sym (append_assoc (p ++ 10 ∷ []) (flat_map (λ line. line ++ 10 ∷ []) (all_but_last (q ∷ qs))) (last_of (q ∷ qs)))

-- the lines and what stands behind them
pub joined-whole : (xs : List ℕ) → xs ≡ flat_map (λ line. line ++ 10 ∷ []) (lines xs) ++ rest_of_lines xs
unfolding lines rest_of_lines
joined-whole xs = by_pieces (pieces 10 xs) (some_pieces 10 xs) (joined-pieces 10 xs)
  where
    by_pieces : (ps : List (List ℕ)) → (part : List ℕ) × (more : List (List ℕ)) × (ps ≡ part ∷ more) → joined 10 ps ≡ xs → xs ≡ flat_map (λ line. line ++ 10 ∷ []) (all_but_last ps) ++ last_of ps
    by_pieces [] some h = let no = some.2 in cc
    by_pieces (p ∷ ps) some h = sym h ∙ joined-lines p ps
