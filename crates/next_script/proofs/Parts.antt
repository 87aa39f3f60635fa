-- Parts that lack the byte between them are cut out as they were joined.
use Rattle.std.proofs.Common.{◌≡◌, ℕ, Bool, true, false, not, ◌&&◌, List, [], ◌∷◌, ◌++◌, refl, ap, sym, ◌∙◌, append_assoc, append-nil, arith, eqb}
use Rattle.std.specs.List.{All, list_all, flat_map}
use Rattle.std.proofs.lemmas.Bool.Decides.{nat_tests}
use Rattle.std.proofs.lemmas.List.Splits.{slice_split_at, slice_split_none}
use Rattle.std.proofs.lemmas.List.Sums.{AllPass-from_list_all}
use Rattle.next_grammar.specs.Words.{pieces}
use Rattle.next_script.specs.Breaks.{ended}
use Rattle.next_script.specs.Pieces.{lines, rest_of_lines}
use Rattle.next_script.proofs.Cutting.{lines_some, rest_of_lines_some}
use Rattle.next_script.proofs.Joined.{joined}

-- the byte does not stand among these
abbrev pub lacks : ℕ → List ℕ → Bool
lacks byte xs = list_all (λ x. not (eqb x byte)) xs

apart : (byte : ℕ) (xs : List ℕ) → lacks byte xs ≡ true → All (λ x. eqb x byte ≡ false) xs
apart byte xs h = λ k d few. (let other = AllPass-from_list_all (λ x. not (eqb x byte)) xs h k d few in grind (arith, nat_tests))

pub lacks-append : (byte : ℕ) (xs ys : List ℕ) → lacks byte xs ≡ true → lacks byte ys ≡ true → lacks byte (xs ++ ys) ≡ true
lacks-append byte [] ys h i = i
lacks-append byte (x ∷ xs) ys h i = let more : lacks byte xs ≡ true → lacks byte (xs ++ ys) ≡ true = λ g. lacks-append byte xs ys g i in grind (arith, nat_tests)

-- one part before the byte
pub pieces-cut : (byte : ℕ) (xs ys : List ℕ) → lacks byte xs ≡ true → pieces byte (xs ++ byte ∷ ys) ≡ xs ∷ pieces byte ys
unfolding pieces
pieces-cut byte xs ys h = slice_split_at (λ b. eqb b byte) xs byte ys (apart byte xs h) (grind (arith, nat_tests))

pub pieces-one : (byte : ℕ) (xs : List ℕ) → lacks byte xs ≡ true → pieces byte xs ≡ xs ∷ []
unfolding pieces
pieces-one byte xs h = slice_split_none (λ b. eqb b byte) xs (apart byte xs h)

pub pieces-joined : (byte : ℕ) (first : List ℕ) (rest : List (List ℕ)) → lacks byte first ≡ true → list_all (lacks byte) rest ≡ true → pieces byte (joined byte (first ∷ rest)) ≡ first ∷ rest
pieces-joined byte first [] h each = rw (append-nil first) (pieces-one byte first h)
pieces-joined byte first (next ∷ rest) h each = by_next (lacks byte next) refl each (λ g more. pieces-joined byte next rest g more)
  where
    by_next : (b : Bool) → lacks byte next ≡ b → (b && list_all (lacks byte) rest) ≡ true →
        (lacks byte next ≡ true → list_all (lacks byte) rest ≡ true → pieces byte (joined byte (next ∷ rest)) ≡ next ∷ rest) → pieces byte (joined byte (first ∷ next ∷ rest)) ≡ first ∷ next ∷ rest
    by_next true g more go = pieces-cut byte first (joined byte (next ∷ rest)) h ∙ ap (λ (l : List (List ℕ)). first ∷ l) (go g more)
    by_next false g more go = cc

-- lines that are each ended are the first lines
lines-first : (line more : List ℕ) → lacks 10 line ≡ true → pieces 10 (ended line ++ more) ≡ line ∷ pieces 10 more
lines-first line more h = rw (append_assoc line (10 ∷ []) more) (pieces-cut 10 line more h)

pub lines-ended : (text : List (List ℕ)) (more : List ℕ) → list_all (lacks 10) text ≡ true → lines (flat_map ended text ++ more) ≡ text ++ lines more
lines-ended [] more each = refl
lines-ended (line ∷ text) more each = by_line (lacks 10 line) refl each (λ rest. lines-ended text more rest)
  where
    by_line : (b : Bool) → lacks 10 line ≡ b → (b && list_all (lacks 10) text) ≡ true → (list_all (lacks 10) text ≡ true → lines (flat_map ended text ++ more) ≡ text ++ lines more) → lines (flat_map ended (line ∷ text) ++ more) ≡ (line ∷ text) ++ lines more
    by_line true h each go =
        rw (append_assoc (ended line) (flat_map ended text) more)
        (lines_some (ended line ++ (flat_map ended text ++ more)) line (flat_map ended text ++ more) (lines-first line (flat_map ended text ++ more) h) ∙ ap (λ (l : List (List ℕ)). line ∷ l) (go each))
    by_line false h each go = cc

pub rest_of_lines-ended : (text : List (List ℕ)) (more : List ℕ) → list_all (lacks 10) text ≡ true → rest_of_lines (flat_map ended text ++ more) ≡ rest_of_lines more
rest_of_lines-ended [] more each = refl
rest_of_lines-ended (line ∷ text) more each = by_line (lacks 10 line) refl each (λ rest. rest_of_lines-ended text more rest)
  where
    by_line : (b : Bool) → lacks 10 line ≡ b → (b && list_all (lacks 10) text) ≡ true → (list_all (lacks 10) text ≡ true → rest_of_lines (flat_map ended text ++ more) ≡ rest_of_lines more) → rest_of_lines (flat_map ended (line ∷ text) ++ more) ≡ rest_of_lines more
    by_line true h each go =
        rw (append_assoc (ended line) (flat_map ended text) more)
        (rest_of_lines_some (ended line ++ (flat_map ended text ++ more)) line (flat_map ended text ++ more) (lines-first line (flat_map ended text ++ more) h) ∙ go each)
    by_line false h each go = cc

-- all of the lines
pub lines-whole : (text : List (List ℕ)) → list_all (lacks 10) text ≡ true → lines (flat_map ended text) ≡ text
unfolding lines pieces
lines-whole text each = ap lines (sym (append-nil (flat_map ended text))) ∙ lines-ended text [] each ∙ append-nil text

pub rest_of_lines-whole : (text : List (List ℕ)) → list_all (lacks 10) text ≡ true → rest_of_lines (flat_map ended text) ≡ []
unfolding rest_of_lines pieces
rest_of_lines-whole text each = ap rest_of_lines (sym (append-nil (flat_map ended text))) ∙ rest_of_lines-ended text [] each
