-- Where the bytes that were read ahead stand.
use Rattle.std.specs.Prelude.{◌≡◌, ◌+◌, ◌-◌, ◌^◌, ◌<◌, ◌≤◌, length, take, drop}
use Rattle.next_io.specs.Ahead.{ReadAhead}
use Rattle.next_io.specs.declared.ahead.Ahead.TheInside.{Inside}

-- they stand in a piece, from `at` to `end`
abbrev pub read_ahead : Inside → ReadAhead
read_ahead a = record { bytes = drop a.at (take a.end a.piece); room = a.room; ended = a.ended }

pub record IsWithin (a : Inside) : Type 0 where
  pub piece : length a.piece ≡ 4096
  pub order : a.at ≤ a.end
  pub inside : a.end ≤ 4096
  -- at most one of them is past the limit
  pub bound : a.end - a.at ≤ a.room + 1
  pub small : a.room < 2 ^ 63
