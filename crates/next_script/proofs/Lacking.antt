-- Lines lack their end.
use Rattle.std.proofs.Common.{◌≡◌, ◌≢◌, ℕ, Bool, true, false, cond, not, ◌&&◌, eqb, List, [], ◌∷◌, refl, arith}
use Rattle.std.specs.List.{All, list_all, slice_split, onto_first}
use Rattle.std.proofs.lemmas.Bool.Decides.{nat_tests}
use Rattle.std.proofs.lemmas.List.Elements.{All-head, All-tail}
use Rattle.std.proofs.lemmas.List.Sums.{AllPass-from_list_all}
use Rattle.next_grammar.specs.Words.{pieces}
use Rattle.next_script.specs.Breaks.{IsLine}
use Rattle.next_script.specs.Pieces.{all_but_last, lines}
use Rattle.next_script.proofs.Parts.{lacks}

pub IsLine-lacks : (line : List ℕ) → IsLine line → lacks 10 line ≡ true
IsLine-lacks [] h = refl
IsLine-lacks (x ∷ xs) h =
    let other : x ≢ 10 = All-head (λ (byte : ℕ). byte ≢ 10) x xs h in
    let rest = IsLine-lacks xs (All-tail (λ (byte : ℕ). byte ≢ 10) x xs h) in
    grind (arith, nat_tests)

pub lacks-IsLine : (line : List ℕ) → lacks 10 line ≡ true → IsLine line
lacks-IsLine line h = λ k d few. (let other = AllPass-from_list_all (λ x. not (eqb x 10)) line h k d few in λ same. grind (arith, nat_tests))

pub each-lacks : (text : List (List ℕ)) → All IsLine text → list_all (lacks 10) text ≡ true
each-lacks [] h = refl
each-lacks (line ∷ text) h = rw (IsLine-lacks line (All-head IsLine line text h)) (each-lacks text (All-tail IsLine line text h))

pub lack-each : (text : List (List ℕ)) → list_all (lacks 10) text ≡ true → All IsLine text
lack-each text h = λ k d few. lacks-IsLine _ (AllPass-from_list_all (lacks 10) text h k d few)

split-lack : (byte : ℕ) (xs : List ℕ) → list_all (lacks byte) (slice_split (λ b. eqb b byte) xs) ≡ true
split-lack byte [] = refl
split-lack byte (x ∷ xs) = by_test (eqb x byte) refl (slice_split (λ b. eqb b byte) xs) (split-lack byte xs)
  where
    by_test : (b : Bool) → eqb x byte ≡ b → (ps : List (List ℕ)) → list_all (lacks byte) ps ≡ true → list_all (lacks byte) (cond b ([] ∷ ps) (onto_first x ps)) ≡ true
    by_test true t ps h = h
    by_test false t [] h = rw t refl
    by_test false t (p ∷ ps) h = rw t h

all_but_last-lack : (byte : ℕ) (ps : List (List ℕ)) → list_all (lacks byte) ps ≡ true → list_all (lacks byte) (all_but_last ps) ≡ true
all_but_last-lack byte [] h = refl
all_but_last-lack byte (p ∷ []) h = refl
all_but_last-lack byte (p ∷ q ∷ ps) h = let rest : list_all (lacks byte) (q ∷ ps) ≡ true → list_all (lacks byte) (all_but_last (q ∷ ps)) ≡ true = all_but_last-lack byte (q ∷ ps) in by_first (lacks byte p) h rest
  where
    by_first : (b : Bool) → (b && list_all (lacks byte) (q ∷ ps)) ≡ true → (list_all (lacks byte) (q ∷ ps) ≡ true → list_all (lacks byte) (all_but_last (q ∷ ps)) ≡ true) → (b && list_all (lacks byte) (all_but_last (q ∷ ps))) ≡ true
    by_first true h rest = rest h
    by_first false h rest = h

pub lines-lack : (xs : List ℕ) → list_all (lacks 10) (lines xs) ≡ true
unfolding lines pieces
lines-lack xs = all_but_last-lack 10 (slice_split (λ b. eqb b 10) xs) (split-lack 10 xs)
