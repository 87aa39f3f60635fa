-- The line at which bytes are refused is the first that breaks the form.
use Rattle.std.proofs.Common.{◌≡◌, ℕ, ◌≤◌, ◌<◌, ◌+◌, ◌-◌, Bool, true, ◌&&◌, nat_le, List, [], ◌∷◌, ◌++◌, length, length-append, map, take, take_all, drop, refl, ap, sym, ◌∙◌, append_assoc, append-nil, arith, Option, Some, None, Result, Ok, Err, inl, inr}
use Rattle.std.specs.Prelude.{◌⊎◌}
use Rattle.std.specs.List.{All, list_all, flat_map}
use Rattle.std.proofs.lemmas.Bool.Decides.{nat_tests}
use Rattle.std.proofs.lemmas.List.{append_cancel_left, map-append, take-append-drop, length-take}
use Rattle.std.proofs.lemmas.List.Elements.{All-same}
use Rattle.std.proofs.lemmas.List.Folds.{list_all-append}
use Rattle.std.proofs.lemmas.Grind.{flat_map-append}
use Rattle.std.proofs.Math.Seq.{take-append-add}
use Rattle.next_grammar.specs.declared.fault.Fault.{Fault}
use Rattle.next_script.specs.declared.reading.Reading.{Reading}
use Rattle.next_setup.specs.declared.script.Script.{Script}
use Rattle.next_script.specs.Breaks.{ended, IsLine, Begins, IsAllSilent, IsFront, BreaksAt, Breaks}
use Rattle.next_script.specs.Forms.{IsSilent, texts, all_lines}
use Rattle.next_script.specs.Pieces.{lines, rest_of_lines, without_return}
use Rattle.next_script.specs.Scripts.{with_text, script_of, most_bytes}
use Rattle.next_script.proofs.Accepted.{script_of-accepted}
use Rattle.next_script.proofs.Cuts.{line_in, Cut, IsOver, after_lines-cut}
use Rattle.next_script.proofs.FormRead.{script_of-form}
use Rattle.next_script.proofs.Joined.{joined-whole}
use Rattle.next_script.proofs.Lacking.{IsLine-lacks, lack-each, lines-lack}
use Rattle.next_script.proofs.Parts.{lacks, lines-ended}
use Rattle.next_script.proofs.Silent.{All-middle, texts-whole, all_lines-whole, silent-script_of, goes-silent}
use Rattle.next_script.proofs.Choices.{and-left, and-both}
use Rattle.next_script.proofs.Texts.{silent-text}
use Rattle.next_script.proofs.Through.{IsShort, Goes, Goes-split, Goes-same, last_text, lines_of, texts_of, all_lines-are, texts-are, IsThrough, script_of-whole, script_of-goes}

-- ---- bytes that begin with lines
pub lines-next : (before : List (List ℕ)) (next : List ℕ) → flat_map ended (before ++ next ∷ []) ≡ flat_map ended before ++ ended next
lines-next before next = flat_map-append ended before (next ∷ []) ∙ ap (λ (l : List ℕ). flat_map ended before ++ l) (append-nil (ended next))

next-lack : (before : List (List ℕ)) (next : List ℕ) → list_all (lacks 10) before ≡ true → IsLine next → list_all (lacks 10) (before ++ next ∷ []) ≡ true
next-lack before next lack is_line = list_all-append (lacks 10) before (next ∷ []) ∙ and-both (list_all (lacks 10) before) (lacks 10 next && true) lack (and-both (lacks 10 next) true (IsLine-lacks next is_line) refl)

lines-begin : (before : List (List ℕ)) (next more : List ℕ) → list_all (lacks 10) before ≡ true → IsLine next → lines ((flat_map ended before ++ ended next) ++ more) ≡ before ++ next ∷ lines more
lines-begin before next more lack is_line =
    ap (λ (l : List ℕ). lines (l ++ more)) (sym (lines-next before next))
    ∙ lines-ended (before ++ next ∷ []) more (next-lack before next lack is_line)
    ∙ append_assoc before (next ∷ []) (lines more)

-- the lines within the limit
lines-within : (before : List (List ℕ)) (next more : List ℕ) → list_all (lacks 10) before ≡ true → IsLine next → length (flat_map ended before ++ ended next) ≤ 4194304 →
    lines (take 4194304 ((flat_map ended before ++ ended next) ++ more)) ≡ before ++ next ∷ lines (take (4194304 - length (flat_map ended before ++ ended next)) more)
lines-within before next more lack is_line few =
    ap (λ (n : ℕ). lines (take n ((flat_map ended before ++ ended next) ++ more))) limit
    ∙ ap lines (take-append-add (flat_map ended before ++ ended next) more (4194304 - length (flat_map ended before ++ ended next)))
    ∙ lines-begin before next (take (4194304 - length (flat_map ended before ++ ended next)) more) lack is_line
  where
    limit : 4194304 ≡ length (flat_map ended before ++ ended next) + (4194304 - length (flat_map ended before ++ ended next))
    limit = omega (arith, few)

-- ---- one more line that is read behind these
record GoesOn (state : Option Reading) (front next : List ℕ) : Type 0 where
  pub last : Option Reading
  pub said : with_text state (without_return next) ≡ Ok last
  pub short : IsShort next
  pub few : length (front ++ ended next) ≤ 4194304

-- the text of the next of these lines leads on
next-said : (state t : Option Reading) (before more : List (List ℕ)) (next : List ℕ) → Goes None (map without_return before) state → Goes None (map without_return (before ++ next ∷ more)) t → (last : Option Reading) × (with_text state (without_return next) ≡ Ok last)
next-said state t before more next g h =
    let parts = Goes-split None (map without_return before) (map without_return (next ∷ more)) t (rw (map-append without_return before (next ∷ more)) at h) in
    let same = Goes-same None (map without_return before) parts.middle state parts.first g in
    let second = parts.second in
    (second.0, rw same at second.1)

abbrev going_on : List (List ℕ) → List ℕ → List ℕ → List ℕ
going_on before next after = (flat_map ended before ++ ended next) ++ after

begins-on : (state : Option Reading) (before : List (List ℕ)) (next : List ℕ) → list_all (lacks 10) before ≡ true → IsLine next → Goes None (map without_return before) state → Begins (flat_map ended before ++ ended next) → GoesOn state (flat_map ended before) next
begins-on state before next lack is_line g b = record { last = on.0; said = on.1; short = All-middle IsShort before next (lines b.after ++ last_text (rest_of_lines (going_on before next b.after))) short; few = few }
  where
    t : IsThrough None (lines (going_on before next b.after)) (rest_of_lines (going_on before next b.after)) b.script
    t = (script_of-whole (going_on before next b.after) b.script (script_of-form (going_on before next b.after) b.script b.form)).through

    are : lines (going_on before next b.after) ≡ before ++ next ∷ lines b.after
    are = lines-begin before next b.after lack is_line

    goes : Goes None (map without_return (before ++ next ∷ lines b.after) ++ last_text (rest_of_lines (going_on before next b.after))) (Some t.last)
    goes = rw are at t.goes

    short : All IsShort (before ++ next ∷ (lines b.after ++ last_text (rest_of_lines (going_on before next b.after))))
    short = rw (← append_assoc before (next ∷ lines b.after) (last_text (rest_of_lines (going_on before next b.after)))) (rw are at t.short)

    on : (last : Option Reading) × (with_text state (without_return next) ≡ Ok last)
    on = let parts = Goes-split None (map without_return (before ++ next ∷ lines b.after)) (last_text (rest_of_lines (going_on before next b.after))) (Some t.last) goes in
        next-said state parts.middle before (lines b.after) next g parts.first

    few : length (flat_map ended before ++ ended next) ≤ 4194304
    few = let len = length-append (flat_map ended before ++ ended next) b.after in let most = b.form.few_bytes in omega (arith, len, most)

silent-on : (state : Option Reading) (before : List (List ℕ)) (next : List ℕ) → list_all (lacks 10) before ≡ true → IsLine next → IsAllSilent (flat_map ended before ++ ended next) → GoesOn state (flat_map ended before) next
silent-on state before next lack is_line a = record {
  last = state;
  said = silent-text state (without_return next) says_nothing;
  short = All-middle IsShort before next [] (All-same IsShort (before ++ next ∷ []) (all_lines (flat_map ended (before ++ next ∷ []))) (sym (all_lines-whole (before ++ next ∷ []) all)) whole.short_lines);
  few = a.few_bytes;
}
  where
    all : list_all (lacks 10) (before ++ next ∷ []) ≡ true
    all = next-lack before next lack is_line

    whole : IsAllSilent (flat_map ended (before ++ next ∷ []))
    whole = rw (lines-next before next) a

    same : map without_return before ++ without_return next ∷ [] ≡ texts (flat_map ended (before ++ next ∷ []))
    same = sym (map-append without_return before (next ∷ [])) ∙ sym (texts-whole (before ++ next ∷ []) all)

    says_nothing : IsSilent (without_return next)
    says_nothing = All-middle IsSilent (map without_return before) (without_return next) [] (All-same IsSilent (map without_return before ++ without_return next ∷ []) (texts (flat_map ended (before ++ next ∷ []))) same whole.silent)

goes-on : (state : Option Reading) (before : List (List ℕ)) (next : List ℕ) → list_all (lacks 10) before ≡ true → IsLine next → Goes None (map without_return before) state → IsFront (flat_map ended before ++ ended next) → GoesOn state (flat_map ended before) next
goes-on state before next lack is_line g (inl b) = begins-on state before next lack is_line g b
goes-on state before next lack is_line g (inr a) = silent-on state before next lack is_line a

-- ---- bytes told by lines
abbrev CutOf : List ℕ → Bool → ℕ → Type 0
CutOf bytes within line = Cut 1 None (lines (take 4194304 bytes)) (rest_of_lines (take 4194304 bytes)) within line

record CutBytes (bytes : List ℕ) (within : Bool) (line : ℕ) : Type 0 where
  pub cut : CutOf bytes within line
  pub rest : List ℕ
  pub whole : bytes ≡ flat_map ended cut.before ++ rest
  pub lack : list_all (lacks 10) cut.before ≡ true
  pub few : length (flat_map ended cut.before) ≤ 4194304

cut-bytes : (bytes : List ℕ) (within : Bool) (line : ℕ) → CutOf bytes within line → CutBytes bytes within line
cut-bytes bytes within line c = record {
  cut = c;
  rest = (flat_map ended c.after ++ rest_of_lines (take 4194304 bytes)) ++ drop 4194304 bytes;
  whole = sym (take-append-drop 4194304 bytes) ∙ ap (λ (l : List ℕ). l ++ drop 4194304 bytes) text ∙ append_assoc (flat_map ended c.before) (flat_map ended c.after ++ rest_of_lines (take 4194304 bytes)) (drop 4194304 bytes);
  lack = and-left _ _ (sym (list_all-append (lacks 10) c.before c.after) ∙ ap (list_all (lacks 10)) (sym c.whole) ∙ lines-lack (take 4194304 bytes));
  few = (let len = ap (λ (l : List ℕ). length l) text in let parts = length-append (flat_map ended c.before) (flat_map ended c.after ++ rest_of_lines (take 4194304 bytes)) in let most = length-take 4194304 bytes in omega (arith, len, parts, most));
}
  where
    text : take 4194304 bytes ≡ flat_map ended c.before ++ (flat_map ended c.after ++ rest_of_lines (take 4194304 bytes))
    text =
        joined-whole (take 4194304 bytes)
        ∙ ap (λ (t : List (List ℕ)). flat_map ended t ++ rest_of_lines (take 4194304 bytes)) c.whole
        ∙ ap (λ (l : List ℕ). l ++ rest_of_lines (take 4194304 bytes)) (flat_map-append ended c.before c.after)
        ∙ append_assoc (flat_map ended c.before) (flat_map ended c.after) (rest_of_lines (take 4194304 bytes))

-- the lines before the one that is refused
before-front : (state : Option Reading) (before : List (List ℕ)) → list_all (lacks 10) before ≡ true → length (flat_map ended before) ≤ 4194304 → All IsShort before → Goes None (map without_return before) state → IsFront (flat_map ended before)
before-front None before lack few short g = inr (record {
  silent = All-same IsSilent (texts (flat_map ended before)) (map without_return before) (texts-whole before lack) (goes-silent (map without_return before) g);
  short_lines = All-same IsShort (all_lines (flat_map ended before)) before (all_lines-whole before lack) short;
  few_bytes = few;
})
before-front (Some r) before lack few short g = inl (record { after = []; script = r.script; form = rw (append-nil (flat_map ended before)) (script_of-accepted (flat_map ended before) r.script said) })
  where
    texts_same : map without_return before ≡ texts_of (lines (flat_map ended before)) (rest_of_lines (flat_map ended before))
    texts_same = sym (texts-whole before lack) ∙ texts-are (flat_map ended before)

    lines_same : lines_of (lines (flat_map ended before)) (rest_of_lines (flat_map ended before)) ≡ before
    lines_same = sym (all_lines-are (flat_map ended before)) ∙ all_lines-whole before lack

    said : script_of (flat_map ended before) ≡ Ok r.script
    said = script_of-goes (flat_map ended before) (Some r) few (rw texts_same at g) (All-same IsShort (lines_of (lines (flat_map ended before)) (rest_of_lines (flat_map ended before))) before lines_same short)

none-begin : (bytes : List ℕ) (within : Bool) (line : ℕ) (c : CutBytes bytes within line) (next more : List ℕ) → IsLine next → c.rest ≡ ended next ++ more → IsFront (flat_map ended c.cut.before ++ ended next) → ⊥
none-begin bytes within line c next more is_line is f =
    c.cut.fails next (lines (take (4194304 - length (flat_map ended c.cut.before ++ ended next)) more)) on.last after on.short on.said
  where
    on : GoesOn c.cut.state (flat_map ended c.cut.before) next
    on = goes-on c.cut.state c.cut.before next c.lack is_line c.cut.goes f

    bytes_are : bytes ≡ (flat_map ended c.cut.before ++ ended next) ++ more
    bytes_are = c.whole ∙ ap (λ (l : List ℕ). flat_map ended c.cut.before ++ l) is ∙ sym (append_assoc (flat_map ended c.cut.before) (ended next) more)

    after : c.cut.after ≡ next ∷ lines (take (4194304 - length (flat_map ended c.cut.before ++ ended next)) more)
    after = append_cancel_left c.cut.before c.cut.after (next ∷ lines (take (4194304 - length (flat_map ended c.cut.before ++ ended next)) more)) (
        sym c.cut.whole ∙ ap (λ (l : List ℕ). lines (take 4194304 l)) bytes_are ∙ lines-within c.cut.before next more c.lack is_line on.few)

-- ---- what refuses bytes
not_both : (line : ℕ) (fault : Fault) (script : Script) (said : Result Script (ℕ × Fault)) → said ≡ Err (line, fault) → said ≡ Ok script → ⊥
not_both line fault script said refused read = cc

-- where no line says anything, the line is behind them all
silent-line : (bytes : List ℕ) (line : ℕ) (fault : Fault) → script_of bytes ≡ Err (line, fault) → IsAllSilent bytes → line ≡ 1 + length (all_lines bytes)
silent-line bytes line fault e a = ap line_in (sym e ∙ silent-script_of bytes a)

cut-not_silent : (bytes : List ℕ) (line : ℕ) (fault : Fault) → script_of bytes ≡ Err (line, fault) → CutOf bytes (nat_le (length bytes) 4194304) line → IsAllSilent bytes → ⊥
cut-not_silent bytes line fault e c a = omega (arith, early, behind, count)
  where
    few : length bytes ≤ 4194304
    few = a.few_bytes

    within : nat_le (length bytes) 4194304 ≡ true
    within = grind (arith, nat_tests)

    early : line < 1 + length (lines_of (lines bytes) (rest_of_lines bytes))
    early = rw (take_all 4194304 bytes few) at (c.early within)

    behind : line ≡ 1 + length (all_lines bytes)
    behind = silent-line bytes line fault e a

    count : length (all_lines bytes) ≡ length (lines_of (lines bytes) (rest_of_lines bytes))
    count = ap (λ (l : List (List ℕ)). length l) (all_lines-are bytes)

cut-breaks : (bytes : List ℕ) (line : ℕ) (fault : Fault) → script_of bytes ≡ Err (line, fault) → CutBytes bytes (nat_le (length bytes) 4194304) line → BreaksAt bytes line
cut-breaks bytes line fault e c = record {
  before = c.cut.before;
  rest = c.rest;
  whole = c.whole;
  each = lack-each c.cut.before c.lack;
  number = (let count = c.cut.is_number in omega (arith, count));
  begins = before-front c.cut.state c.cut.before c.lack c.few c.cut.short c.cut.goes;
  breaks = none-begin bytes (nat_le (length bytes) 4194304) line c;
  refused = λ script form. not_both line fault script (script_of bytes) e (script_of-form bytes script form);
  some = cut-not_silent bytes line fault e c.cut;
}

over-silent : (bytes : List ℕ) (line : ℕ) (within : Bool) → within ≡ nat_le (length bytes) 4194304 → IsOver 1 None (lines (take 4194304 bytes)) (rest_of_lines (take 4194304 bytes)) within line → IsAllSilent bytes × (line ≡ length (all_lines bytes) + 1)
over-silent bytes line within is o = (
  record {
    silent = All-same IsSilent (texts bytes) (texts_of (lines bytes) (rest_of_lines bytes)) (texts-are bytes) (goes-silent (texts_of (lines bytes) (rest_of_lines bytes)) (rw all at o.goes));
    short_lines = All-same IsShort (all_lines bytes) (lines_of (lines bytes) (rest_of_lines bytes)) (all_lines-are bytes) (rw all at o.short);
    few_bytes = few;
  },
  (let number = o.is_number in omega (arith, number, count)),
)
  where
    few : length bytes ≤ 4194304
    few = let yes_within : nat_le (length bytes) 4194304 ≡ true = sym is ∙ o.all in grind (arith, nat_tests)

    all : take 4194304 bytes ≡ bytes
    all = take_all 4194304 bytes few

    count : length (all_lines bytes) ≡ length (lines_of (lines (take 4194304 bytes)) (rest_of_lines (take 4194304 bytes)))
    count = ap (λ (l : List (List ℕ)). length l) (all_lines-are bytes) ∙ ap (λ (l : List ℕ). length (lines_of (lines l) (rest_of_lines l))) (sym all)

script_of-cut : (bytes : List ℕ) (line : ℕ) (fault : Fault) → script_of bytes ≡ Err (line, fault) → CutOf bytes (nat_le (length bytes) 4194304) line ⊎ IsOver 1 None (lines (take 4194304 bytes)) (rest_of_lines (take 4194304 bytes)) (nat_le (length bytes) 4194304) line
unfolding script_of most_bytes
script_of-cut bytes line fault e = after_lines-cut 1 None (lines (take 4194304 bytes)) (rest_of_lines (take 4194304 bytes)) (nat_le (length bytes) 4194304) line fault e

pub script_of-breaks : (bytes : List ℕ) (line : ℕ) (fault : Fault) → script_of bytes ≡ Err (line, fault) → Breaks bytes line
script_of-breaks bytes line fault e = by_cut (script_of-cut bytes line fault e)
  where
    by_cut : CutOf bytes (nat_le (length bytes) 4194304) line ⊎ IsOver 1 None (lines (take 4194304 bytes)) (rest_of_lines (take 4194304 bytes)) (nat_le (length bytes) 4194304) line → Breaks bytes line
    by_cut (inl c) = inr (cut-breaks bytes line fault e (cut-bytes bytes (nat_le (length bytes) 4194304) line c))
    by_cut (inr o) = inl (over-silent bytes line (nat_le (length bytes) 4194304) refl o)
