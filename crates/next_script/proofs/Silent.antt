-- Bytes whose lines all say nothing, and the lines of whole lines.
use Rattle.std.proofs.Common.{◌≡◌, ℕ, ◌+◌, ◌≤◌, true, List, [], ◌∷◌, ◌++◌, length, map, refl, ap, sym, ◌∙◌, Option, Some, None, Err}
use Rattle.std.specs.List.{All, list_all, flat_map}
use Rattle.std.proofs.lemmas.List.{map-append}
use Rattle.std.proofs.lemmas.List.Elements.{All-nil, All-cons, All-head, All-tail, All-same}
use Rattle.next_grammar.specs.declared.fault.Fault.TheVariants.{NoPlaces}
use Rattle.next_script.specs.declared.reading.Reading.{Reading}
use Rattle.next_script.specs.Breaks.{ended, IsAllSilent}
use Rattle.next_script.specs.Forms.{IsSilent, with_rest, all_lines, texts}
use Rattle.next_script.specs.Pieces.{lines, rest_of_lines, without_return}
use Rattle.next_script.specs.Scripts.{turned, ordered, script_of}
use Rattle.next_script.proofs.FormRead.{silent-goes}
use Rattle.next_script.proofs.Parts.{lacks, lines-whole, rest_of_lines-whole}
use Rattle.next_script.proofs.Texts.{Step, silent, order_line, turns_of_line, with_text-step, Opening, still, places_line, with_text-opening}
use Rattle.next_script.proofs.Through.{IsShort, Goes, lines_of, texts_of, all_lines-are, texts-are, script_of-goes}

-- ---- the first of two parts
pub All-front : {X : Type 0} (P : X → Type 0) (xs ys : List X) → All P (xs ++ ys) → All P xs
All-front P [] ys h = All-nil P
All-front P (x ∷ xs) ys h = All-cons P x xs (All-head P x (xs ++ ys) h) (All-front P xs ys (All-tail P x (xs ++ ys) h))

pub All-middle : {X : Type 0} (P : X → Type 0) (xs : List X) (y : X) (ys : List X) → All P (xs ++ y ∷ ys) → P y
All-middle P [] y ys h = All-head P y ys h
All-middle P (x ∷ xs) y ys h = All-middle P xs y ys (All-tail P x (xs ++ y ∷ ys) h)

-- ---- bytes that are whole lines
pub texts-whole : (text : List (List ℕ)) → list_all (lacks 10) text ≡ true → texts (flat_map ended text) ≡ map without_return text
texts-whole text lack = ap (λ (rest : List ℕ). with_rest (map without_return (lines (flat_map ended text))) rest) (rest_of_lines-whole text lack) ∙ ap (map without_return) (lines-whole text lack)

pub all_lines-whole : (text : List (List ℕ)) → list_all (lacks 10) text ≡ true → all_lines (flat_map ended text) ≡ text
all_lines-whole text lack = ap (λ (rest : List ℕ). with_rest (lines (flat_map ended text)) rest) (rest_of_lines-whole text lack) ∙ lines-whole text lack

-- the first of such lines say nothing where all do
pub silent-front : (xs ys : List (List ℕ)) → list_all (lacks 10) xs ≡ true → list_all (lacks 10) (xs ++ ys) ≡ true → length (flat_map ended xs) ≤ 4194304 → IsAllSilent (flat_map ended (xs ++ ys)) → IsAllSilent (flat_map ended xs)
silent-front xs ys lack all few h = record {
  silent = All-same IsSilent (texts (flat_map ended xs)) (map without_return xs) (texts-whole xs lack) says_nothing;
  short_lines = All-same IsShort (all_lines (flat_map ended xs)) xs (all_lines-whole xs lack) short;
  few_bytes = few;
}
  where
    same : map without_return xs ++ map without_return ys ≡ texts (flat_map ended (xs ++ ys))
    same = sym (map-append without_return xs ys) ∙ sym (texts-whole (xs ++ ys) all)

    says_nothing : All IsSilent (map without_return xs)
    says_nothing = All-front IsSilent (map without_return xs) (map without_return ys) (All-same IsSilent (map without_return xs ++ map without_return ys) (texts (flat_map ended (xs ++ ys))) same h.silent)

    short : All IsShort xs
    short = All-front IsShort xs ys (All-same IsShort (xs ++ ys) (all_lines (flat_map ended (xs ++ ys))) (sym (all_lines-whole (xs ++ ys) all)) h.short_lines)

-- ---- where no line says anything, none is read
pub silent-script_of : (bytes : List ℕ) → IsAllSilent bytes → script_of bytes ≡ Err (1 + length (all_lines bytes), NoPlaces)
silent-script_of bytes h = script_of-goes bytes None h.few_bytes goes short ∙ ap (λ (n : ℕ). Err (1 + n, NoPlaces)) (ap (λ (l : List (List ℕ)). length l) (sym (all_lines-are bytes)))
  where
    goes : Goes None (texts_of (lines bytes) (rest_of_lines bytes)) None
    goes = silent-goes None (texts_of (lines bytes) (rest_of_lines bytes)) (All-same IsSilent (texts_of (lines bytes) (rest_of_lines bytes)) (texts bytes) (sym (texts-are bytes)) h.silent)

    short : All IsShort (lines_of (lines bytes) (rest_of_lines bytes))
    short = All-same IsShort (lines_of (lines bytes) (rest_of_lines bytes)) (all_lines bytes) (sym (all_lines-are bytes)) h.short_lines

-- ---- and where none was read, no line says anything
goes-none : (r : Reading) (texts : List (List ℕ)) → Goes (Some r) texts None → ⊥
goes-none r [] g = cc
goes-none r (text ∷ texts) g = by_step (with_text-step r text g.0 g.1) (λ s h. goes-none s texts (rw h at g.2))
  where
    by_step : Step r text g.0 → ((s : Reading) → g.0 ≡ Some s → ⊥) → ⊥
    by_step (silent says is) go = go r is
    by_step (order_line order says room is) go = go (ordered r order) is
    by_step (turns_of_line t ts says few is) go = go (turned r (t ∷ ts)) is

pub goes-silent : (texts : List (List ℕ)) → Goes None texts None → All IsSilent texts
goes-silent [] g = All-nil IsSilent
goes-silent (text ∷ texts) g = by_opening (with_text-opening text g.0 g.1) (λ h. goes-silent texts (rw h at g.2)) (λ r h. goes-none r texts (rw h at g.2))
  where
    by_opening : Opening text g.0 → (g.0 ≡ None → All IsSilent texts) → ((r : Reading) → g.0 ≡ Some r → ⊥) → All IsSilent (text ∷ texts)
    by_opening (still says is) go never = All-cons IsSilent text texts says (go is)
    by_opening (places_line counts says is) go never = absurd (never _ is)

pub none-from : (s : Option Reading) (texts : List (List ℕ)) → Goes s texts None → s ≡ None
none-from None texts g = refl
none-from (Some r) texts g = absurd (goes-none r texts g)
