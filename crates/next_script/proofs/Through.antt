-- All lines of bytes, read one after another.
use Rattle.std.proofs.Common.{◌≡◌, ℕ, ◌+◌, ◌≤◌, nat_le, nat_lt, Bool, true, false, cond, List, [], ◌∷◌, ◌++◌, length, map, take, take_all, refl, ap, sym, ◌∙◌, append-nil, arith, Option, Some, None, Result, Ok, Err}
use Rattle.std.specs.List.{All}
use Rattle.std.proofs.lemmas.Bool.Decides.{nat_tests}
use Rattle.std.proofs.lemmas.List.Elements.{All-nil, All-cons, All-head, All-tail}
use Rattle.next_grammar.specs.declared.fault.Fault.{Fault}
use Rattle.next_grammar.specs.declared.fault.Fault.TheVariants.{LineTooLong}
use Rattle.next_script.specs.declared.reading.Reading.{Reading}
use Rattle.next_setup.specs.declared.script.Script.{Script}
use Rattle.next_script.specs.Forms.{with_rest, all_lines, texts}
use Rattle.next_script.specs.Pieces.{lines, rest_of_lines, without_return}
use Rattle.next_script.specs.Scripts.{with_text, with_line, or_fault, ended, last_line, after_lines, script_of, most_bytes}

abbrev pub IsShort : List ℕ → Type 0
IsShort line = length line ≤ 4096

-- ---- these texts lead from one reading to another
abbrev pub Goes : Option Reading → List (List ℕ) → Option Reading → Type 0
Goes s [] t = s ≡ t
Goes s (text ∷ texts) t = (next : Option Reading) × (with_text s text ≡ Ok next) × Goes next texts t

pub Goes-append : (s : Option Reading) (xs ys : List (List ℕ)) (m t : Option Reading) → Goes s xs m → Goes m ys t → Goes s (xs ++ ys) t
Goes-append s [] ys m t g h = rw g h
Goes-append s (x ∷ xs) ys m t g h = (g.0, g.1, Goes-append g.0 xs ys m t g.2 h)

-- where they lead behind the first of them
pub record Split (s : Option Reading) (xs ys : List (List ℕ)) (t : Option Reading) : Type 0 where
  pub middle : Option Reading
  pub first : Goes s xs middle
  pub second : Goes middle ys t

pub Goes-split : (s : Option Reading) (xs ys : List (List ℕ)) (t : Option Reading) → Goes s (xs ++ ys) t → Split s xs ys t
Goes-split s [] ys t g = record { middle = s; first = refl; second = g }
Goes-split s (x ∷ xs) ys t g = let h = Goes-split g.0 xs ys t g.2 in record { middle = h.middle; first = (g.0, g.1, h.first); second = h.second }

-- they lead to one alone
pub Goes-same : (s : Option Reading) (xs : List (List ℕ)) (a b : Option Reading) → Goes s xs a → Goes s xs b → a ≡ b
Goes-same s [] a b g h = sym g ∙ h
Goes-same s (x ∷ xs) a b g h =
    let said = g.1 in
    let other = h.1 in
    let same : h.0 ≡ g.0 = cc in
    Goes-same g.0 xs a b g.2 (rw same at h.2)

-- ---- a line
pub with_line-text : (s : Option Reading) (line text : List ℕ) (next : Option Reading) → with_line s line text ≡ Ok next → IsShort line × (with_text s text ≡ Ok next)
unfolding with_line
with_line-text s line text next e = by_test (nat_lt 4096 (length line)) refl e
  where
    by_test : (b : Bool) → nat_lt 4096 (length line) ≡ b → cond b (Err LineTooLong) (with_text s text) ≡ Ok next → (length line ≤ 4096) × (with_text s text ≡ Ok next)
    by_test true t e = cc
    by_test false t e = (grind (arith, nat_tests), e)

pub with_line-short : (s : Option Reading) (line text : List ℕ) (next : Option Reading) → IsShort line → with_text s text ≡ Ok next → with_line s line text ≡ Ok next
unfolding with_line
with_line-short s line text next short e =
    let within : nat_lt 4096 (length line) ≡ false = grind (arith, nat_tests) in
    ap (λ (b : Bool). cond b (Err LineTooLong) (with_text s text)) within ∙ e

-- ---- what stands behind the last LF is a line where it isn't empty
abbrev pub last_text : List ℕ → List (List ℕ)
last_text [] = []
last_text (b ∷ rest) = (b ∷ rest) ∷ []

pub with_rest-last : (xs : List (List ℕ)) (rest : List ℕ) → with_rest xs rest ≡ xs ++ last_text rest
with_rest-last xs [] = sym (append-nil xs)
with_rest-last xs (b ∷ rest) = refl

-- all of the lines and their texts
abbrev pub lines_of : List (List ℕ) → List ℕ → List (List ℕ)
lines_of lines rest = lines ++ last_text rest

abbrev pub texts_of : List (List ℕ) → List ℕ → List (List ℕ)
texts_of lines rest = map without_return lines ++ last_text rest

pub all_lines-are : (bytes : List ℕ) → all_lines bytes ≡ lines_of (lines bytes) (rest_of_lines bytes)
all_lines-are bytes = with_rest-last (lines bytes) (rest_of_lines bytes)

pub texts-are : (bytes : List ℕ) → texts bytes ≡ texts_of (lines bytes) (rest_of_lines bytes)
texts-are bytes = with_rest-last (map without_return (lines bytes)) (rest_of_lines bytes)

-- ---- all lines are read
pub record IsThrough (s : Option Reading) (lines : List (List ℕ)) (rest : List ℕ) (script : Script) : Type 0 where
  pub last : Reading
  pub goes : Goes s (texts_of lines rest) (Some last)
  pub short : All IsShort (lines_of lines rest)
  pub is : last.script ≡ script

last_line-through : (number : ℕ) (s : Option Reading) (rest : List ℕ) (script : Script) → last_line number s rest ≡ Ok script → IsThrough s [] rest script
last_line-through number None [] script e = cc
last_line-through number (Some r) [] script e = record { last = r; goes = refl; short = All-nil IsShort; is = cc }
last_line-through number s (b ∷ rest) script e = by_line (with_line s (b ∷ rest) (b ∷ rest)) refl e
  where
    by_line : (said : Result (Option Reading) Fault) → with_line s (b ∷ rest) (b ∷ rest) ≡ said → or_fault number (ended (number + 1)) said ≡ Ok script → IsThrough s [] (b ∷ rest) script
    by_line (Err fault) o e = cc
    by_line (Ok None) o e = cc
    by_line (Ok (Some r)) o e =
        let h = with_line-text s (b ∷ rest) (b ∷ rest) (Some r) o in
        record { last = r; goes = (Some r, h.1, refl); short = All-cons IsShort (b ∷ rest) [] h.0 (All-nil IsShort); is = cc }

record IsWithin (s : Option Reading) (lines : List (List ℕ)) (rest : List ℕ) (within : Bool) (script : Script) : Type 0 where
  pub within_limit : within ≡ true
  pub through : IsThrough s lines rest script

after_lines-through : (number : ℕ) (s : Option Reading) (lines : List (List ℕ)) (rest : List ℕ) (within : Bool) (script : Script) → after_lines number s lines rest within ≡ Ok script → IsWithin s lines rest within script
unfolding after_lines
after_lines-through number s [] rest true script e = record { within_limit = refl; through = last_line-through number s rest script e }
after_lines-through number s [] rest false script e = cc
after_lines-through number s (line ∷ more) rest within script e = by_line (with_line s line (without_return line)) refl e (λ next f. after_lines-through (number + 1) next more rest within script f)
  where
    by_line : (said : Result (Option Reading) Fault) → with_line s line (without_return line) ≡ said → or_fault number (λ next. after_lines (number + 1) next more rest within) said ≡ Ok script →
        ((next : Option Reading) → after_lines (number + 1) next more rest within ≡ Ok script → IsWithin next more rest within script) → IsWithin s (line ∷ more) rest within script
    by_line (Err fault) o e go = cc
    by_line (Ok next) o e go =
        let h = with_line-text s line (without_return line) next o in
        let w = go next e in
        let t = w.through in
        record {
          within_limit = w.within_limit;
          through = record { last = t.last; goes = (next, h.1, t.goes); short = All-cons IsShort line (lines_of more rest) h.0 t.short; is = t.is };
        }

-- ---- and back
last_line-goes : (number : ℕ) (s : Option Reading) (rest : List ℕ) (t : Option Reading) → Goes s (last_text rest) t → All IsShort (last_text rest) → last_line number s rest ≡ ended (number + length (last_text rest)) t
last_line-goes number s [] t g short = let same : number ≡ number + 0 = omega arith in ap (ended number) g ∙ ap (λ (n : ℕ). ended n t) same
last_line-goes number s (b ∷ rest) t g short =
    let said : with_line s (b ∷ rest) (b ∷ rest) ≡ Ok t = with_line-short s (b ∷ rest) (b ∷ rest) t (All-head IsShort (b ∷ rest) [] short) (g.1 ∙ ap (λ (o : Option Reading). Ok o) g.2) in
    ap (or_fault number (ended (number + 1))) said

pub after_lines-goes : (number : ℕ) (s : Option Reading) (lines : List (List ℕ)) (rest : List ℕ) (t : Option Reading) → Goes s (texts_of lines rest) t → All IsShort (lines_of lines rest) → after_lines number s lines rest true ≡ ended (number + length (lines_of lines rest)) t
unfolding after_lines
after_lines-goes number s [] rest t g short = last_line-goes number s rest t g short
after_lines-goes number s (line ∷ more) rest t g short =
    let said : with_line s line (without_return line) ≡ Ok g.0 = with_line-short s line (without_return line) g.0 (All-head IsShort line (lines_of more rest) short) g.1 in
    let count : (number + 1) + length (lines_of more rest) ≡ number + length (lines_of (line ∷ more) rest) = omega arith in
    ap (or_fault number (λ (next : Option Reading). after_lines (number + 1) next more rest true)) said
    ∙ after_lines-goes (number + 1) g.0 more rest t g.2 (All-tail IsShort line (lines_of more rest) short)
    ∙ ap (λ (n : ℕ). ended n t) count

-- ---- the whole bytes
pub record IsWhole (bytes : List ℕ) (script : Script) : Type 0 where
  pub few : length bytes ≤ 4194304
  pub through : IsThrough None (lines bytes) (rest_of_lines bytes) script

pub script_of-whole : (bytes : List ℕ) (script : Script) → script_of bytes ≡ Ok script → IsWhole bytes script
unfolding script_of most_bytes
script_of-whole bytes script e = by_test (nat_le (length bytes) 4194304) refl (after_lines-through 1 None (lines (take 4194304 bytes)) (rest_of_lines (take 4194304 bytes)) (nat_le (length bytes) 4194304) script e)
  where
    by_test : (b : Bool) → nat_le (length bytes) 4194304 ≡ b → IsWithin None (lines (take 4194304 bytes)) (rest_of_lines (take 4194304 bytes)) b script → IsWhole bytes script
    by_test true t w =
        let few : length bytes ≤ 4194304 = grind (arith, nat_tests) in
        let all : take 4194304 bytes ≡ bytes = take_all 4194304 bytes few in
        record { few = few; through = rw all at w.through }
    by_test false t w = let no = w.within_limit in cc

pub script_of-goes : (bytes : List ℕ) (t : Option Reading) → length bytes ≤ 4194304 → Goes None (texts_of (lines bytes) (rest_of_lines bytes)) t → All IsShort (lines_of (lines bytes) (rest_of_lines bytes)) →
    script_of bytes ≡ ended (1 + length (lines_of (lines bytes) (rest_of_lines bytes))) t
unfolding script_of most_bytes
script_of-goes bytes t few g short =
    let within : nat_le (length bytes) 4194304 ≡ true = grind (arith, nat_tests) in
    rw (take_all 4194304 bytes few, within) (after_lines-goes 1 None (lines bytes) (rest_of_lines bytes) t g short)
