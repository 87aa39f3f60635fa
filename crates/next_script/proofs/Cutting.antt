-- What a cut at LF leaves of the lines, and a line without the CR at its end.
use Rattle.std.proofs.Common.{◌≡◌, ◌≢◌, ℕ, false, List, [], ◌∷◌, ◌++◌, refl, length, arith, eqb}
use Rattle.std.proofs.lemmas.List.{length_push}
use Rattle.std.proofs.lemmas.Bool.Decides.{nat_tests}
use Rattle.next_grammar.specs.Words.{pieces}
use Rattle.next_grammar.proofs.Cutting.{some_pieces}
use Rattle.next_script.specs.Pieces.{lines, rest_of_lines, without_return}

pub lines_none : (xs : List ℕ) → pieces 10 xs ≡ xs ∷ [] → lines xs ≡ []
unfolding lines
lines_none xs h = rw h refl

pub rest_of_lines_none : (xs : List ℕ) → pieces 10 xs ≡ xs ∷ [] → rest_of_lines xs ≡ xs
unfolding rest_of_lines
rest_of_lines_none xs h = rw h refl

pub lines_some : (xs line more : List ℕ) → pieces 10 xs ≡ line ∷ pieces 10 more → lines xs ≡ line ∷ lines more
unfolding lines
lines_some xs line more h = let some = some_pieces 10 more in rw (h, some.2) refl

pub rest_of_lines_some : (xs line more : List ℕ) → pieces 10 xs ≡ line ∷ pieces 10 more → rest_of_lines xs ≡ rest_of_lines more
unfolding rest_of_lines
rest_of_lines_some xs line more h = let some = some_pieces 10 more in rw (h, some.2) refl

pub ruleset cutting = (lines_none, rest_of_lines_none, lines_some, rest_of_lines_some)

-- the CR at the end goes
pub without_return-push : (xs : List ℕ) → without_return (xs ++ 13 ∷ []) ≡ xs
unfolding without_return
without_return-push [] = refl
without_return-push (x ∷ xs) =
    let long : eqb (length (xs ++ 13 ∷ [])) 0 ≡ false = grind (arith, nat_tests, length_push) in
    rw (long, without_return-push xs) refl

-- another last byte stays
pub without_return-other : (xs : List ℕ) (b : ℕ) → b ≢ 13 → without_return (xs ++ b ∷ []) ≡ xs ++ b ∷ []
unfolding without_return
without_return-other [] b other = let is : eqb b 13 ≡ false = grind (arith, nat_tests) in rw is refl
without_return-other (x ∷ xs) b other =
    let long : eqb (length (xs ++ b ∷ [])) 0 ≡ false = grind (arith, nat_tests, length_push) in
    rw (long, without_return-other xs b other) refl

-- and so does an empty line
pub without_return-none : (xs : List ℕ) → length xs ≡ 0 → without_return xs ≡ xs
unfolding without_return
without_return-none [] h = refl
without_return-none (x ∷ xs) h = absurd (omega arith)

pub ruleset returning = (without_return-push, without_return-other, without_return-none)
