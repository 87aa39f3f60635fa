-- There is one line at which bytes break the form first.
use Rattle.std.proofs.Common.{◌≡◌, ℕ, ◌<◌, ◌≤◌, Bool, true, false, ◌&&◌, nat_le, List, [], ◌∷◌, ◌++◌, length, length-append, refl, ap, sym, ◌∙◌, append_assoc, arith, Result, Ok, Err, inl, inr}
use Rattle.std.specs.Prelude.{◌↔◌}
use Rattle.std.specs.List.{list_all, flat_map}
use Rattle.std.proofs.lemmas.Bool.Decides.{nat_tests}
use Rattle.std.proofs.lemmas.List.{append_cancel_left}
use Rattle.std.proofs.lemmas.List.Folds.{list_all-append}
use Rattle.std.proofs.lemmas.Grind.{flat_map-append}
use Rattle.next_grammar.specs.declared.fault.Fault.{Fault}
use Rattle.next_setup.specs.declared.script.Script.{Script}
use Rattle.next_script.specs.Breaks.{ended, Begins, IsAllSilent, IsFront, BreaksAt, Breaks, IsRefusedAt}
use Rattle.next_script.specs.Pieces.{lines}
use Rattle.next_script.specs.Scripts.{script_of}
use Rattle.next_script.proofs.Accepted.{script_of-accepted}
use Rattle.next_script.proofs.Broken.{lines-next, script_of-breaks}
use Rattle.next_script.proofs.Lacking.{lacks-IsLine, each-lacks}
use Rattle.next_script.proofs.Parts.{lacks, lines-ended}
use Rattle.next_script.proofs.Silent.{silent-front, silent-script_of}
use Rattle.next_script.proofs.Choices.{and-left, and-right, and-both}

record IsLonger (short long : List (List ℕ)) : Type 0 where
  pub next : List ℕ
  pub others : List (List ℕ)
  pub is : long ≡ short ++ next ∷ others

longer-more : (x y : List ℕ) (xs ys : List (List ℕ)) → x ≡ y → IsLonger xs ys → IsLonger (x ∷ xs) (y ∷ ys)
longer-more x y xs ys same h = record { next = h.next; others = h.others; is = ap (λ (z : List ℕ). z ∷ ys) (sym same) ∙ ap (λ (t : List (List ℕ)). x ∷ t) h.is }

longer : (xs ys rs ss : List (List ℕ)) → xs ++ rs ≡ ys ++ ss → length xs < length ys → IsLonger xs ys
longer [] [] rs ss e few = absurd (omega arith)
longer [] (y ∷ ys) rs ss e few = record { next = y; others = ys; is = refl }
longer (x ∷ xs) [] rs ss e few = absurd (omega arith)
longer (x ∷ xs) (y ∷ ys) rs ss e few =
    let head : x ≡ y = cc in
    let rest : xs ++ rs ≡ ys ++ ss = cc in
    longer-more x y xs ys head (longer xs ys rs ss rest (omega arith))

-- ---- what breaks nothing begins with what breaks nothing
Begins-front : (front more : List ℕ) → Begins (front ++ more) → Begins front
Begins-front front more b = record { after = more ++ b.after; script = b.script; form = rw (← append_assoc front more b.after) b.form }

lines-behind : (before others : List (List ℕ)) (next : List ℕ) → flat_map ended (before ++ next ∷ others) ≡ (flat_map ended before ++ ended next) ++ flat_map ended others
lines-behind before others next = flat_map-append ended before (next ∷ others) ∙ sym (append_assoc (flat_map ended before) (ended next) (flat_map ended others))

front-front : (before others : List (List ℕ)) (next : List ℕ) → list_all (lacks 10) before ≡ true → list_all (lacks 10) (next ∷ others) ≡ true → IsFront (flat_map ended (before ++ next ∷ others)) → IsFront (flat_map ended before ++ ended next)
front-front before others next lack more (inl b) = inl (Begins-front (flat_map ended before ++ ended next) (flat_map ended others) (rw (lines-behind before others next) at b))
front-front before others next lack more (inr a) = inr (rw (lines-next before next) at (silent-front (before ++ next ∷ []) others first all few silent))
  where
    regroup : before ++ next ∷ others ≡ (before ++ next ∷ []) ++ others
    regroup = sym (append_assoc before (next ∷ []) others)

    first : list_all (lacks 10) (before ++ next ∷ []) ≡ true
    first = list_all-append (lacks 10) before (next ∷ []) ∙ and-both (list_all (lacks 10) before) (lacks 10 next && true) lack (and-both (lacks 10 next) true (and-left (lacks 10 next) (list_all (lacks 10) others) more) refl)

    all : list_all (lacks 10) ((before ++ next ∷ []) ++ others) ≡ true
    all = list_all-append (lacks 10) (before ++ next ∷ []) others ∙ and-both (list_all (lacks 10) (before ++ next ∷ [])) (list_all (lacks 10) others) first (and-right (lacks 10 next) (list_all (lacks 10) others) more)

    few : length (flat_map ended (before ++ next ∷ [])) ≤ 4194304
    few =
        let whole = ap (λ (l : List ℕ). length l) (lines-behind before others next) in
        let parts = length-append (flat_map ended before ++ ended next) (flat_map ended others) in
        let part = ap (λ (l : List ℕ). length l) (lines-next before next) in
        let most = a.few_bytes in
        omega (arith, whole, parts, part, most)

    silent : IsAllSilent (flat_map ended ((before ++ next ∷ []) ++ others))
    silent = rw regroup at a

no_later : (bytes : List ℕ) (i j : ℕ) (a : BreaksAt bytes i) (b : BreaksAt bytes j) → length a.before < length b.before → ⊥
no_later bytes i j a b few =
    a.breaks m.next (flat_map ended m.others ++ b.rest) (lacks-IsLine m.next (and-left (lacks 10 m.next) (list_all (lacks 10) m.others) behind)) rest_is (front-front a.before m.others m.next (each-lacks a.before a.each) behind (rw m.is at b.begins))
  where
    same_lines : a.before ++ lines a.rest ≡ b.before ++ lines b.rest
    same_lines =
        sym (lines-ended a.before a.rest (each-lacks a.before a.each)) ∙ ap lines (sym a.whole ∙ b.whole) ∙ lines-ended b.before b.rest (each-lacks b.before b.each)

    m : IsLonger a.before b.before
    m = longer a.before b.before (lines a.rest) (lines b.rest) same_lines few

    behind : list_all (lacks 10) (m.next ∷ m.others) ≡ true
    behind = and-right (list_all (lacks 10) a.before) (list_all (lacks 10) (m.next ∷ m.others)) (sym (list_all-append (lacks 10) a.before (m.next ∷ m.others)) ∙ ap (list_all (lacks 10)) (sym m.is) ∙ each-lacks b.before b.each)

    text : flat_map ended b.before ≡ (flat_map ended a.before ++ ended m.next) ++ flat_map ended m.others
    text = ap (λ (t : List (List ℕ)). flat_map ended t) m.is ∙ lines-behind a.before m.others m.next

    rest_is : a.rest ≡ ended m.next ++ (flat_map ended m.others ++ b.rest)
    rest_is = append_cancel_left (flat_map ended a.before) a.rest (ended m.next ++ (flat_map ended m.others ++ b.rest)) (
        sym a.whole ∙ b.whole ∙ ap (λ (l : List ℕ). l ++ b.rest) text
        ∙ append_assoc (flat_map ended a.before ++ ended m.next) (flat_map ended m.others) b.rest
        ∙ append_assoc (flat_map ended a.before) (ended m.next) (flat_map ended m.others ++ b.rest))

one_break_at : (bytes : List ℕ) (i j : ℕ) → BreaksAt bytes i → BreaksAt bytes j → i ≡ j
one_break_at bytes i j a b = by_tests (nat_le (length b.before) (length a.before)) refl (nat_le (length a.before) (length b.before)) refl
  where
    by_tests : (p : Bool) → nat_le (length b.before) (length a.before) ≡ p → (q : Bool) → nat_le (length a.before) (length b.before) ≡ q → i ≡ j
    by_tests false t q u = let less : length a.before < length b.before = grind (arith, nat_tests) in absurd (no_later bytes i j a b less)
    by_tests true t false u = let less : length b.before < length a.before = grind (arith, nat_tests) in absurd (no_later bytes j i b a less)
    by_tests true t true u =
        let low : length b.before ≤ length a.before = grind (arith, nat_tests) in
        let high : length a.before ≤ length b.before = grind (arith, nat_tests) in
        let first = a.number in
        let second = b.number in
        omega (arith, low, high, first, second)

one_break : (bytes : List ℕ) (i j : ℕ) → Breaks bytes i → Breaks bytes j → i ≡ j
one_break bytes i j (inl a) (inl b) = a.1 ∙ sym b.1
one_break bytes i j (inl a) (inr b) = absurd (b.some a.0)
one_break bytes i j (inr a) (inl b) = absurd (a.some b.0)
one_break bytes i j (inr a) (inr b) = one_break_at bytes i j a b

-- ---- the line of a refusal is that one
breaks-refused : (bytes : List ℕ) (line : ℕ) → Breaks bytes line → IsRefusedAt line (script_of bytes)
breaks-refused bytes line (inl a) = rw (silent-script_of bytes a.0) (let number = a.1 in omega (arith, number))
breaks-refused bytes line (inr b) = by_said (script_of bytes) refl
  where
    by_said : (said : Result Script (ℕ × Fault)) → script_of bytes ≡ said → IsRefusedAt line said
    by_said (Ok script) e = absurd (b.refused script (script_of-accepted bytes script e))
    by_said (Err refused) e = one_break bytes refused.0 line (script_of-breaks bytes refused.0 refused.1 e) (inr b)

refused-breaks : (bytes : List ℕ) (line : ℕ) → IsRefusedAt line (script_of bytes) → Breaks bytes line
refused-breaks bytes line h = by_said (script_of bytes) refl h
  where
    by_said : (said : Result Script (ℕ × Fault)) → script_of bytes ≡ said → IsRefusedAt line said → Breaks bytes line
    by_said (Ok script) e is = absurd is
    by_said (Err refused) e is = rw is at (script_of-breaks bytes refused.0 refused.1 e)

pub script_of-refused : (bytes : List ℕ) (line : ℕ) → IsRefusedAt line (script_of bytes) ↔ Breaks bytes line
script_of-refused bytes line = (refused-breaks bytes line, breaks-refused bytes line)
