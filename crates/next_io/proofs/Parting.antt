-- What the bytes that were read ahead give of a line, by where their first LF stands.
use Rattle.std.proofs.Common.{◌≡◌, ◌≤◌, ◌<◌, ◌+◌, ◌-◌, ℕ, List, ◌++◌, length, take, drop, arith, sym, ap, ◌∙◌}
use Rattle.std.proofs.lemmas.Bool.Decides.{nat_tests}
use Rattle.std.proofs.lemmas.List.{take-append-drop, take_min, length-take, drop_all}
use Rattle.std.specs.List.{position_or_len}
use Rattle.std.specs.Prelude.{◌==◌, nat_lt, min}
use Rattle.next_io.specs.Ahead.{ReadAhead}
use Rattle.next_io.specs.Lines.{has_end, line_got, so_far}
use Rattle.next_io.specs.Parts.{EndsBy, TakesPart}
use Rattle.next_io.specs.declared.line_got.LineGot.{LineGot}
use Rattle.next_io.specs.declared.line_part.PartEnd.{PartEnd}
use Rattle.next_io.specs.declared.line_part.PartEnd.TheVariants.{Line, PastLimit, Piece}
use Rattle.next_io.proofs.Cutting.{first_line-at, has_end-at, first_line-part, behind_line-part, has_end-part}

-- the bytes before the first LF
abbrev line_len : List ℕ → ℕ
line_len bytes = position_or_len (λ b. b == 10) bytes

-- the part has an LF where one stands in the bytes
has_end-cut : (bytes : List ℕ) (part : ℕ) → part ≡ min (line_len bytes + 1) (length bytes) → has_end (take part bytes) ≡ nat_lt (line_len bytes) (length bytes)
has_end-cut bytes part len = ap (λ k. has_end (take k bytes)) len ∙ ap has_end (take_min (line_len bytes + 1) bytes) ∙ has_end-part bytes ∙ has_end-at bytes

-- the part is the line's bytes here, its LF among them
TakesPart-cut : (old : ReadAhead) (line grown : LineGot) (end : PartEnd) (part : ℕ) → part ≡ min (line_len old.bytes + 1) (length old.bytes) → 0 < length old.bytes →
    EndsBy end old.room (take part old.bytes) (drop part old.bytes) →
    ((before : List ℕ) → length (take part old.bytes) ≤ old.room → line ≡ so_far before → grown ≡ line_got (before ++ take (line_len old.bytes) old.bytes)) →
    TakesPart old (record old { bytes = drop part old.bytes; room = old.room - part }) line grown end
TakesPart-cut old line grown end part len some ends grows = record {
  part = take part old.bytes;
  some = omega (arith, length-take part old.bytes);
  front = sym (take-append-drop part old.bytes);
  limit = omega (arith, length-take part old.bytes);
  one = rw cut (behind_line-part old.bytes);
  ends = ends;
  grows = λ before within was. rw (cut, first_line-part old.bytes, ← first_line-at old.bytes) (grows before within was);
}
  where
    cut : take part old.bytes ≡ take (line_len old.bytes + 1) old.bytes
    cut = ap (λ k. take k old.bytes) len ∙ take_min (line_len old.bytes + 1) old.bytes

-- what was taken, from what the code knows of it
module _ (old new : ReadAhead) (line : LineGot) (bytes : List ℕ) (len part : ℕ) (same : bytes ≡ old.bytes) (end : len ≡ line_len bytes) (cut : part ≡ min (len + 1) (length bytes)) (some : 0 < length old.bytes)
    (skipped : new ≡ record old { bytes = drop part old.bytes; room = old.room - part }) where
  part_is : part ≡ min (line_len old.bytes + 1) (length old.bytes)
  part_is = cc

  -- whether the line's LF stands there
  ends_there : has_end (take part old.bytes) ≡ nat_lt len (length bytes)
  ends_there = rw (end, same) (has_end-cut old.bytes part part_is)

  line_is : take len bytes ≡ take (line_len old.bytes) old.bytes
  line_is = cc

  pub TakesPart-past : length old.bytes ≤ old.room + 1 → old.room < part → TakesPart old new line line PastLimit
  TakesPart-past bound past = rw skipped (TakesPart-cut old line line PastLimit part part_is some (omega (arith, part_is, length-take part old.bytes), drop_all part old.bytes (omega (arith, part_is))) (λ before within was. absurd (omega (arith, part_is, length-take part old.bytes, within))))

  pub TakesPart-line : (grown : LineGot) → part ≤ old.room → len < length bytes → ((before : List ℕ) → line ≡ so_far before → grown ≡ line_got (before ++ take len bytes)) → TakesPart old new line grown Line
  TakesPart-line grown within there grows = rw skipped (TakesPart-cut old line grown Line part part_is some (grind (arith, nat_tests, ends_there, there), omega (arith, length-take part old.bytes)) (λ before fits was. grows before was ∙ ap (λ l. line_got (before ++ l)) line_is))

  pub TakesPart-piece : (grown : LineGot) → part ≤ old.room → length bytes ≤ len → ((before : List ℕ) → line ≡ so_far before → grown ≡ line_got (before ++ take len bytes)) → TakesPart old new line grown Piece
  TakesPart-piece grown within none grows = rw skipped (TakesPart-cut old line grown Piece part part_is some (grind (arith, nat_tests, ends_there, none), omega (arith, length-take part old.bytes), drop_all part old.bytes (omega (arith, part_is, ap length same))) (λ before fits was. grows before was ∙ ap (λ l. line_got (before ++ l)) line_is))
