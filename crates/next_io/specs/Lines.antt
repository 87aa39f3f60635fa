-- The lines of a text: each ends with LF, and what stands behind the last LF is a line where it isn't empty.
use Rattle.std.specs.Prelude.{ℕ, ◌≡◌, ◌≢◌, ◌+◌, ◌-◌, ◌<◌, ◌≤◌, ◌==◌, nat_lt, Bool, true, false, ◌||◌, if◌then◌else◌, List, [], ◌∷◌, length, ⊤, None, Some}
use Rattle.std.specs.declared.option.Option.{Option}
use Rattle.std.specs.Io.KnownBytes.{Consumes, IsAtEnd}
use Rattle.next_io.specs.declared.line_got.LineGot.{LineGot}
use Rattle.next_io.specs.declared.line_got.LineGot.TheVariants.{Line, TooLong, PastLimit, End}

-- the bytes before the first LF, or all of them
unfoldable pub first_line : List ℕ → List ℕ
first_line [] = []
first_line (b ∷ text) = if b == 10 then [] else b ∷ first_line text

-- the bytes behind the first LF, or none
unfoldable pub behind_line : List ℕ → List ℕ
behind_line [] = []
behind_line (b ∷ text) = if b == 10 then text else behind_line text

-- whether one of the bytes is LF
unfoldable pub has_end : List ℕ → Bool
has_end [] = false
has_end (b ∷ text) = b == 10 || has_end text

-- a byte in front of the first line
abbrev pub onto_first : ℕ → List (List ℕ) → List (List ℕ)
onto_first b [] = (b ∷ []) ∷ []
onto_first b (line ∷ more) = (b ∷ line) ∷ more

-- all lines of a text, each without its LF
unfoldable pub lines_of : List ℕ → List (List ℕ)
lines_of [] = []
lines_of (b ∷ text) = if b == 10 then [] ∷ lines_of text else onto_first b (lines_of text)

-- a line by its bytes
abbrev pub line_got : List ℕ → LineGot
line_got line = if nat_lt 4096 (length line) then TooLong else Line line

-- the line so far, by the bytes that were seen of it: none yet where there are none
abbrev pub so_far : List ℕ → LineGot
so_far [] = End
so_far (b ∷ seen) = line_got (b ∷ seen)

-- the first line of a text, under a limit of `most` bytes: it goes past the limit where it has more, its LF counted
abbrev pub first_got : ℕ → List ℕ → LineGot
first_got most [] = End
first_got most (b ∷ text) =
    if nat_lt (most + length (behind_line (b ∷ text))) (length (b ∷ text)) then PastLimit
    else line_got (first_line (b ∷ text))

-- what a call told of the first line of the bytes that were left, under a limit of `most` bytes, of which `room` are left
pub record TellsLine (most room : ℕ) (old new : Option (List ℕ)) (got : LineGot) : Type 0 where
  -- the bytes that it went over
  pub seen : List ℕ
  pub taken : Consumes old new seen
  -- no byte behind the line, and one past the limit at most
  pub one : behind_line seen ≡ []
  pub bound : length seen ≤ most + 1
  pub limit : room ≡ most - length seen
  -- they go to the line's LF, past the limit, or to the end of input
  pub whole : has_end seen ≡ false → length seen ≤ most → IsAtEnd new
  pub told : got ≡ first_got most seen

-- how far a call went into a line that it didn't tell
pub record GoesInto (most room : ℕ) (old new : Option (List ℕ)) : Type 0 where
  pub seen : List ℕ
  pub taken : Consumes old new seen
  pub no_end : has_end seen ≡ false
  pub limit : room + length seen ≡ most

-- what is told of a text that is known: its first line, and the text behind it
pub record TellsFirst (most : ℕ) (text : List ℕ) (new : Option (List ℕ)) (got : LineGot) : Type 0 where
  pub told : got ≡ first_got most text
  pub rest : got ≢ PastLimit → new ≡ Some (behind_line text)

-- a byte is left, where the source tells its bytes
abbrev pub HasByte : Option (List ℕ) → Type 0
HasByte None = ⊤
HasByte (Some text) = 0 < length text

-- nothing is told behind it
abbrev pub is_last : LineGot → Bool
is_last (Line line) = false
is_last TooLong = false
is_last PastLimit = true
is_last End = true
