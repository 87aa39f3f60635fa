-- Where lines are refused, those before are read, and none that goes on with the line is.
use Rattle.std.proofs.Common.{◌≡◌, ℕ, ◌+◌, ◌<◌, Bool, true, false, List, [], ◌∷◌, ◌++◌, length, map, refl, ap, sym, arith, Option, Some, None, Result, Ok, Err, inl, inr}
use Rattle.std.specs.Prelude.{◌⊎◌}
use Rattle.std.specs.List.{All}
use Rattle.std.proofs.lemmas.List.Elements.{All-nil, All-cons}
use Rattle.next_grammar.specs.declared.fault.Fault.{Fault}
use Rattle.next_grammar.specs.declared.fault.Fault.TheVariants.{NoPlaces, TooMany}
use Rattle.next_script.specs.declared.reading.Reading.{Reading}
use Rattle.next_setup.specs.declared.script.Script.{Script}
use Rattle.next_script.specs.Pieces.{without_return}
use Rattle.next_script.specs.Scripts.{with_text, with_line, or_fault, ended, last_line, after_lines}
use Rattle.next_script.proofs.Through.{IsShort, Goes, with_line-text, with_line-short, last_text, lines_of, texts_of}

-- the line of a refusal
abbrev pub line_in : Result Script (ℕ × Fault) → ℕ
line_in (Ok script) = 0
line_in (Err refused) = refused.0

abbrev refused_at : ℕ → Fault → Result Script (ℕ × Fault)
refused_at line fault = Err (line, fault)

same_line : (n m : ℕ) (f g : Fault) → refused_at n f ≡ refused_at m g → m ≡ n
same_line n m f g e = sym (ap line_in e)

-- the line that is refused is one of these, or stands behind them where they pass the limit
pub record Cut (number : ℕ) (s : Option Reading) (lines : List (List ℕ)) (rest : List ℕ) (within : Bool) (line : ℕ) : Type 0 where
  pub before : List (List ℕ)
  pub after : List (List ℕ)
  pub state : Option Reading
  pub whole : lines ≡ before ++ after
  pub is_number : line ≡ number + length before
  pub goes : Goes s (map without_return before) state
  pub short : All IsShort before
  pub fails : (next : List ℕ) (more : List (List ℕ)) (t : Option Reading) → after ≡ next ∷ more → IsShort next → with_text state (without_return next) ≡ Ok t → ⊥
  pub early : within ≡ true → line < number + length (lines_of lines rest)

-- all lines are read, and nothing is behind them
pub record IsOver (number : ℕ) (s : Option Reading) (lines : List (List ℕ)) (rest : List ℕ) (within : Bool) (line : ℕ) : Type 0 where
  pub goes : Goes s (texts_of lines rest) None
  pub short : All IsShort (lines_of lines rest)
  pub is_number : line ≡ number + length (lines_of lines rest)
  pub all : within ≡ true

-- the refusal behind the last of the lines
behind_lines : (number : ℕ) (s : Option Reading) (rest : List ℕ) (within : Bool) (line : ℕ) → line ≡ number → (within ≡ true → 0 < length (last_text rest)) → Cut number s [] rest within line
behind_lines number s rest within line is some = record {
  before = [];
  after = [];
  state = s;
  whole = refl;
  is_number = omega (arith, is);
  goes = refl;
  short = All-nil IsShort;
  fails = λ next more t same short ok. cc;
  early = λ all. (let few = some all in omega (arith, is, few));
}

last_line-cut : (number : ℕ) (s : Option Reading) (rest : List ℕ) (line : ℕ) (fault : Fault) → last_line number s rest ≡ Err (line, fault) → Cut number s [] rest true line ⊎ IsOver number s [] rest true line
last_line-cut number None [] line fault e = inr (record { goes = refl; short = All-nil IsShort; is_number = (let is = same_line number line NoPlaces fault e in omega (arith, is)); all = refl })
last_line-cut number (Some r) [] line fault e = cc
last_line-cut number s (b ∷ rest) line fault e = by_line (with_line s (b ∷ rest) (b ∷ rest)) refl e
  where
    by_line : (said : Result (Option Reading) Fault) → with_line s (b ∷ rest) (b ∷ rest) ≡ said → or_fault number (ended (number + 1)) said ≡ Err (line, fault) → Cut number s [] (b ∷ rest) true line ⊎ IsOver number s [] (b ∷ rest) true line
    by_line (Err other) o e = inl (behind_lines number s (b ∷ rest) true line (same_line number line other fault e) (λ all. omega arith))
    by_line (Ok None) o e =
        let h = with_line-text s (b ∷ rest) (b ∷ rest) None o in
        let is = same_line (number + 1) line NoPlaces fault e in
        inr (record { goes = (None, h.1, refl); short = All-cons IsShort (b ∷ rest) [] h.0 (All-nil IsShort); is_number = omega (arith, is); all = refl })
    by_line (Ok (Some r)) o e = cc

-- a line that is refused is refused wherever it stands there
fails-here : (s : Option Reading) (line next : List ℕ) (lines more : List (List ℕ)) (t : Option Reading) (fault : Fault) → with_line s line (without_return line) ≡ Err fault → line ∷ lines ≡ next ∷ more → IsShort next → with_text s (without_return next) ≡ Ok t → ⊥
fails-here s line next lines more t fault o same short ok =
    let head : line ≡ next = cc in
    let read : with_line s next (without_return next) ≡ Ok t = with_line-short s next (without_return next) t short ok in
    let refused : with_line s next (without_return next) ≡ Err fault = rw (← head) o in
    cc

cut-more : (number : ℕ) (s next : Option Reading) (l : List ℕ) (ls : List (List ℕ)) (rest : List ℕ) (within : Bool) (line : ℕ) → IsShort l → with_text s (without_return l) ≡ Ok next → Cut (number + 1) next ls rest within line → Cut number s (l ∷ ls) rest within line
cut-more number s next l ls rest within line short said c = record {
  before = l ∷ c.before;
  after = c.after;
  state = c.state;
  whole = ap (λ (t : List (List ℕ)). l ∷ t) c.whole;
  is_number = (let count = c.is_number in omega (arith, count));
  goes = (next, said, c.goes);
  short = All-cons IsShort l c.before short c.short;
  fails = c.fails;
  early = λ all. (let few = c.early all in omega (arith, few));
}

over-more : (number : ℕ) (s next : Option Reading) (l : List ℕ) (ls : List (List ℕ)) (rest : List ℕ) (within : Bool) (line : ℕ) → IsShort l → with_text s (without_return l) ≡ Ok next → IsOver (number + 1) next ls rest within line → IsOver number s (l ∷ ls) rest within line
over-more number s next l ls rest within line short said c = record {
  goes = (next, said, c.goes);
  short = All-cons IsShort l (lines_of ls rest) short c.short;
  is_number = (let count = c.is_number in omega (arith, count));
  all = c.all;
}

pub after_lines-cut : (number : ℕ) (s : Option Reading) (lines : List (List ℕ)) (rest : List ℕ) (within : Bool) (line : ℕ) (fault : Fault) → after_lines number s lines rest within ≡ Err (line, fault) → Cut number s lines rest within line ⊎ IsOver number s lines rest within line
unfolding after_lines
after_lines-cut number s [] rest true line fault e = last_line-cut number s rest line fault e
after_lines-cut number s [] rest false line fault e = inl (behind_lines number s rest false line (same_line number line TooMany fault e) (λ all. cc))
after_lines-cut number s (l ∷ ls) rest within line fault e = by_line (with_line s l (without_return l)) refl e (λ next f. after_lines-cut (number + 1) next ls rest within line fault f)
  where
    by_line : (said : Result (Option Reading) Fault) → with_line s l (without_return l) ≡ said → or_fault number (λ next. after_lines (number + 1) next ls rest within) said ≡ Err (line, fault) →
        ((next : Option Reading) → after_lines (number + 1) next ls rest within ≡ Err (line, fault) → Cut (number + 1) next ls rest within line ⊎ IsOver (number + 1) next ls rest within line) → Cut number s (l ∷ ls) rest within line ⊎ IsOver number s (l ∷ ls) rest within line
    by_line (Err other) o e go = let is = same_line number line other fault e in inl (record {
      before = [];
      after = l ∷ ls;
      state = s;
      whole = refl;
      is_number = omega (arith, is);
      goes = refl;
      short = All-nil IsShort;
      fails = λ next more t same short ok. fails-here s l next ls more t other o same short ok;
      early = λ all. omega (arith, is);
    })
    by_line (Ok next) o e go =
        let h = with_line-text s l (without_return l) next o in
        by_cut h.0 h.1 (go next e)
      where
        by_cut : IsShort l → with_text s (without_return l) ≡ Ok next → Cut (number + 1) next ls rest within line ⊎ IsOver (number + 1) next ls rest within line → Cut number s (l ∷ ls) rest within line ⊎ IsOver number s (l ∷ ls) rest within line
        by_cut short said (inl c) = inl (cut-more number s next l ls rest within line short said c)
        by_cut short said (inr c) = inr (over-more number s next l ls rest within line short said c)
