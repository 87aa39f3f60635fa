-- What the bytes that were read ahead give of a line.
use Rattle.std.specs.Prelude.{ℕ, ◌≡◌, ◌+◌, ◌-◌, ◌<◌, ◌≤◌, true, false, List, [], ◌++◌, length}
use Rattle.next_io.specs.Ahead.{ReadAhead}
use Rattle.next_io.specs.Lines.{first_line, behind_line, has_end, line_got, so_far}
use Rattle.next_io.specs.declared.line_got.LineGot.{LineGot}
use Rattle.next_io.specs.declared.line_part.PartEnd.{PartEnd}
use Rattle.next_io.specs.declared.line_part.PartEnd.TheVariants.{Line, PastLimit, Piece}

-- why a part ends where it does, under a limit of `room` bytes
abbrev pub EndsBy : PartEnd → ℕ → List ℕ → List ℕ → Type 0
EndsBy Line room part rest = (has_end part ≡ true) × (length part ≤ room)
EndsBy PastLimit room part rest = (length part ≡ room + 1) × (rest ≡ [])
EndsBy Piece room part rest = (has_end part ≡ false) × (length part ≤ room) × (rest ≡ [])

-- the line grew by a part, which was taken from the front of the bytes
pub record TakesPart (old new : ReadAhead) (line grown : LineGot) (end : PartEnd) : Type 0 where
  pub part : List ℕ
  pub some : 0 < length part
  pub front : old.bytes ≡ part ++ new.bytes
  pub limit : new.room ≡ old.room - length part
  pub one : behind_line part ≡ []
  pub ends : EndsBy end old.room part new.bytes
  pub grows : (before : List ℕ) → length part ≤ old.room → line ≡ so_far before → grown ≡ line_got (before ++ first_line part)
