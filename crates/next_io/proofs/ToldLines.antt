-- What is told of a text that is known.
use Rattle.std.proofs.Common.{◌≡◌, ◌≤◌, ◌<◌, ℕ, Bool, true, false, List, [], ◌∷◌, ◌++◌, length, Option, inl, inr, Some, None, refl, arith, sym, ap, ◌∙◌, append-nil, length-append}
use Rattle.std.proofs.lemmas.Bool.{cases_lt}
use Rattle.std.proofs.lemmas.Bool.Decides.{nat_tests}
use Rattle.next_io.specs.Lines.{first_line, behind_line, has_end, lines_of, line_got, first_got, TellsLine, TellsFirst}
use Rattle.next_io.specs.declared.line_got.LineGot.{LineGot}
use Rattle.next_io.specs.declared.line_got.LineGot.TheVariants.{PastLimit}
use Rattle.next_io.proofs.Cutting.{first_line-whole, behind_line-whole, behind_line-onto, length-behind_line}
use Rattle.next_io.proofs.FirstGot.{first_got-within, first_got-past}

has_end-some : (seen : List ℕ) → has_end seen ≡ true → 0 < length seen
unfolding has_end
has_end-some [] ends = cc
has_end-some (b ∷ seen) ends = omega arith

-- bytes up to an LF tell what the whole text tells
first_got-whole : (most : ℕ) (seen rest : List ℕ) → has_end seen ≡ true → behind_line seen ≡ [] → first_got most (seen ++ rest) ≡ first_got most seen
first_got-whole most seen rest ends one = elim (cases_lt most (length seen)) [
  | inl past ↦ first_got-past most (seen ++ rest) (omega (arith, lengths, length-append seen rest)) ∙ sym (first_got-past most seen (omega (arith, ap length one)))
  | inr within ↦
      first_got-within most (seen ++ rest) (omega (arith, has_end-some seen ends, length-append seen rest)) (omega (arith, lengths, length-append seen rest))
      ∙ ap line_got (first_line-whole seen rest ends)
      ∙ sym (first_got-within most seen (has_end-some seen ends) (omega arith))
]
  where
    lengths : length (behind_line (seen ++ rest)) ≡ length rest
    lengths = ap length (behind_line-whole seen rest ends) ∙ ap (λ l. length (l ++ rest)) one

-- so do bytes past the limit
first_got-on : (most : ℕ) (seen rest : List ℕ) → has_end seen ≡ false → most < length seen → first_got most (seen ++ rest) ≡ PastLimit
first_got-on most seen rest going past =
    first_got-past most (seen ++ rest) (omega (arith, ap length (behind_line-onto seen rest going), length-behind_line rest, length-append seen rest))

TellsFirst-seen : (most : ℕ) (seen rest : List ℕ) (got : LineGot) (ends : Bool) → has_end seen ≡ ends → behind_line seen ≡ [] → (has_end seen ≡ false → length seen ≤ most → rest ≡ []) → got ≡ first_got most seen →
    TellsFirst most (seen ++ rest) (Some rest) got
TellsFirst-seen most seen rest got true ends one whole told = record {
  told = told ∙ sym (first_got-whole most seen rest ends one);
  rest = λ within. ap Some (sym (behind_line-whole seen rest ends ∙ ap (λ l. l ++ rest) one));
}
TellsFirst-seen most seen rest got false going one whole told = elim (cases_lt most (length seen)) [
  | inl past ↦ (let is_past : got ≡ PastLimit = told ∙ first_got-past most seen (omega (arith, ap length one)) in
      record { told = is_past ∙ sym (first_got-on most seen rest going past); rest = λ within. absurd (within is_past) })
  | inr fits ↦ (let all : seen ++ rest ≡ seen = ap (λ l. seen ++ l) (whole going fits) ∙ append-nil seen in
      record { told = told ∙ ap (first_got most) (sym all); rest = λ within. ap Some (whole going fits ∙ sym (ap behind_line all ∙ one)) })
]

pub TellsLine-told : (most room : ℕ) (old new : Option (List ℕ)) (got : LineGot) → TellsLine most room old new got → (text : List ℕ) → old ≡ Some text → TellsFirst most text new got
TellsLine-told most room None new got t text e = absurd (let clash : Some text ≡ None = sym e in cc)
TellsLine-told most room (Some xs) None got t text e = absurd t.taken
TellsLine-told most room (Some xs) (Some rest) got t text e =
    let whole : text ≡ t.seen ++ rest = cc (t.taken) in
    rw whole (TellsFirst-seen most t.seen rest got (has_end t.seen) refl t.one t.whole t.told)

-- the lines of a text are its first and those of the text behind it
pub lines_of-first : (text : List ℕ) → 0 < length text → lines_of text ≡ first_line text ∷ lines_of (behind_line text)
unfolding lines_of first_line behind_line
lines_of-first [] some = absurd (omega arith)
lines_of-first (b ∷ []) some = grind (arith, nat_tests)
lines_of-first (b ∷ c ∷ text) some = grind (arith, nat_tests, lines_of-first (c ∷ text))
