-- How a line grows until it ends.
use Rattle.std.proofs.Common.{◌≡◌, ◌≤◌, ◌<◌, ◌+◌, ℕ, true, false, List, [], ◌∷◌, ◌++◌, length, Option, Some, None, refl, arith, sym, ap, ◌∙◌, append_assoc, length-append}
use Rattle.std.specs.Io.KnownBytes.{Consumes, IsAtEnd, Keeps, prepend_known}
use Rattle.next_io.specs.Ahead.{ReadAhead}
use Rattle.next_io.specs.Lines.{has_end, line_got, so_far, first_got, HasByte, GoesInto, TellsLine}
use Rattle.next_io.specs.Parts.{TakesPart}
use Rattle.next_io.specs.declared.line_got.LineGot.{LineGot}
use Rattle.next_io.specs.declared.line_got.LineGot.TheVariants.{PastLimit, End}
use Rattle.next_io.specs.declared.line_part.PartEnd.TheVariants.{Line as LineEnds, PastLimit as LimitPassed, Piece}
use Rattle.next_io.proofs.FirstGot.{first_got-within, first_got-past}
use Rattle.next_io.proofs.Cutting.{first_line-onto, behind_line-onto, has_end-onto, first_line-none, behind_line-none}

-- what was seen of the line, which has no LF yet and stays within the limit
pub record IsGoing (most room : ℕ) (start now : Option (List ℕ)) (line : LineGot) : Type 0 where
  pub seen : List ℕ
  pub taken : Consumes start now seen
  pub going : has_end seen ≡ false
  pub limit : room + length seen ≡ most
  pub line_is : line ≡ so_far seen

-- nothing was seen yet
Consumes-nothing : (o : Option (List ℕ)) → Consumes o o []
Consumes-nothing None = tt
Consumes-nothing (Some text) = refl

pub IsGoing-start : (most : ℕ) (start : Option (List ℕ)) → IsGoing most most start start End
unfolding has_end
IsGoing-start most start = record { seen = []; taken = Consumes-nothing start; going = refl; limit = omega arith; line_is = refl }

Consumes-kept : (a b c : Option (List ℕ)) (xs : List ℕ) → Consumes a b xs → Keeps b c → Consumes a c xs
Consumes-kept None b c xs h k = tt
Consumes-kept (Some x) None c xs h k = absurd h
Consumes-kept (Some x) (Some y) None xs h k = absurd k
Consumes-kept (Some x) (Some y) (Some z) xs h k = h ∙ ap (λ l. xs ++ l) (sym k)

-- where the call fails there
pub GoesInto-failed : (most room left_room : ℕ) (start now after : Option (List ℕ)) (line : LineGot) → IsGoing most room start now line → left_room ≡ room → Keeps now after → GoesInto most left_room start after
GoesInto-failed most room left_room start now after line going room_is same = record {
  seen = going.seen;
  taken = Consumes-kept start now after going.seen going.taken same;
  no_end = going.going;
  limit = omega (arith, going.limit, room_is);
}

-- one more part was taken from the bytes that were read ahead
Consumes-part : (a left : Option (List ℕ)) (bytes part rest seen : List ℕ) → bytes ≡ part ++ rest → Consumes a (prepend_known bytes left) seen → Consumes a (prepend_known rest left) (seen ++ part)
Consumes-part None left bytes part rest seen e h = tt
Consumes-part (Some x) None bytes part rest seen e h = absurd h
Consumes-part (Some x) (Some y) bytes part rest seen e h = h ∙ ap (λ l. seen ++ (l ++ y)) e ∙ ap (λ l. seen ++ l) (append_assoc part rest y) ∙ sym (append_assoc seen part (rest ++ y))

-- so the line had a byte
pub HasByte-ahead : (a left : Option (List ℕ)) (bytes seen : List ℕ) → 0 < length bytes → Consumes a (prepend_known bytes left) seen → HasByte a
HasByte-ahead None left bytes seen some h = tt
HasByte-ahead (Some x) None bytes seen some h = absurd h
HasByte-ahead (Some x) (Some y) bytes seen some h = omega (arith, ap length h, length-append seen (bytes ++ y), length-append bytes y)

-- the bytes of a line that has no end
first_got-so_far : (most : ℕ) (seen : List ℕ) → has_end seen ≡ false → length seen ≤ most → first_got most seen ≡ so_far seen
first_got-so_far most [] going within = refl
first_got-so_far most (b ∷ seen) going within = first_got-within most (b ∷ seen) (omega arith) (omega arith) ∙ ap line_got (first_line-none (b ∷ seen) going)

so_far-some : (seen : List ℕ) → 0 < length seen → so_far seen ≡ line_got seen
so_far-some [] some = absurd (omega arith)
so_far-some (b ∷ seen) some = refl

module _ (most room : ℕ) (old new : ReadAhead) (start now left : Option (List ℕ)) (line grown : LineGot) (going : IsGoing most room start now line) (room_is : old.room ≡ room) (same : Keeps now (prepend_known old.bytes left)) where
  taken_on : (part rest : List ℕ) → old.bytes ≡ part ++ rest → Consumes start (prepend_known rest left) (going.seen ++ part)
  taken_on part rest front = Consumes-part start left old.bytes part rest going.seen front (Consumes-kept start now (prepend_known old.bytes left) going.seen going.taken same)

  -- how much was seen, and how much the limit leaves
  sums : (part : List ℕ) → (length (going.seen ++ part) ≡ length going.seen + length part) × (old.room + length going.seen ≡ most)
  sums part = (length-append going.seen part, ap (λ n. n + length going.seen) room_is ∙ going.limit)

  pub IsGoing-piece : TakesPart old new line grown Piece → IsGoing most new.room start (prepend_known new.bytes left) grown
  IsGoing-piece t = record {
    seen = going.seen ++ t.part;
    taken = taken_on t.part new.bytes t.front;
    going = has_end-onto going.seen t.part going.going ∙ t.ends.0;
    limit = omega (arith, sums t.part, t.ends, t.limit);
    line_is = t.grows going.seen t.ends.1 going.line_is ∙ ap (λ l. line_got (going.seen ++ l)) (first_line-none t.part t.ends.0) ∙ sym (so_far-some (going.seen ++ t.part) (omega (arith, sums t.part, t.some)));
  }

  pub TellsLine-line : TakesPart old new line grown LineEnds → TellsLine most new.room start (prepend_known new.bytes left) grown
  TellsLine-line t = record {
    seen = going.seen ++ t.part;
    taken = taken_on t.part new.bytes t.front;
    one = behind_line-onto going.seen t.part going.going ∙ t.one;
    bound = omega (arith, sums t.part, t.ends, t.limit);
    limit = omega (arith, sums t.part, t.ends, t.limit);
    whole = λ none within. (let ends : true ≡ false = sym t.ends.0 ∙ sym (has_end-onto going.seen t.part going.going) ∙ none in cc);
    told =
        t.grows going.seen t.ends.1 going.line_is
        ∙ ap line_got (sym (first_line-onto going.seen t.part going.going))
        ∙ sym (first_got-within most (going.seen ++ t.part) (omega (arith, sums t.part, t.some)) (omega (arith, sums t.part, t.ends)));
  }

  -- no more than one byte past the limit is read ahead
  pub bound-line : length old.bytes ≤ old.room + 1 → TakesPart old new line grown LineEnds → length new.bytes ≤ new.room + 1
  bound-line bound t = omega (arith, ap length t.front, length-append t.part new.bytes, t.ends, t.limit, bound)

  pub TellsLine-past : TakesPart old new line grown LimitPassed → TellsLine most new.room start (prepend_known new.bytes left) PastLimit
  TellsLine-past t = record {
    seen = going.seen ++ t.part;
    taken = taken_on t.part new.bytes t.front;
    one = behind_line-onto going.seen t.part going.going ∙ t.one;
    bound = omega (arith, sums t.part, t.ends, t.limit);
    limit = omega (arith, sums t.part, t.ends, t.limit);
    whole = λ none within. absurd (omega (arith, sums t.part, t.ends, within));
    told = sym (first_got-past most (going.seen ++ t.part) (omega (arith, sums t.part, t.ends, ap length (behind_line-onto going.seen t.part going.going ∙ t.one))));
  }

IsAtEnd-known : (bytes : List ℕ) (left : Option (List ℕ)) → bytes ≡ [] → IsAtEnd left → IsAtEnd (prepend_known bytes left)
IsAtEnd-known bytes None none end = tt
IsAtEnd-known bytes (Some left) none end = rw (none, end) refl

-- the input has ended
pub TellsLine-end : (most room left_room : ℕ) (start now left : Option (List ℕ)) (bytes : List ℕ) (line : LineGot) → IsGoing most room start now line → left_room ≡ room → bytes ≡ [] → Keeps now (prepend_known bytes left) → IsAtEnd left → TellsLine most left_room start (prepend_known bytes left) line
TellsLine-end most room left_room start now left bytes line going room_is none same end = record {
  seen = going.seen;
  taken = Consumes-kept start now (prepend_known bytes left) going.seen going.taken same;
  one = behind_line-none going.seen going.going;
  bound = omega (arith, going.limit);
  limit = omega (arith, going.limit, room_is);
  whole = λ no_end within. IsAtEnd-known bytes left none end;
  told = going.line_is ∙ sym (first_got-so_far most going.seen going.going (omega (arith, going.limit)));
}
