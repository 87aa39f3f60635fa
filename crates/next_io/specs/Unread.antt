-- What a reader of lines has left.
use Rattle.std.specs.Prelude.{ℕ, List}
use Rattle.std.specs.declared.option.Option.{Option}
use Rattle.std.specs.Io.KnownBytes.{prepend_known}
use Rattle.next_io.specs.declared.traits.Source.{Ghosts}
use Rattle.next_io.specs.declared.line_reader.LineReader.{LineReader}

-- the bytes that it read ahead, and those that its source has left, where the source tells them
abbrev pub unread : {S : Type 0} {device : Ghosts S} → LineReader S device → Option (List ℕ)
unread {S} {device} reader = prepend_known reader.ahead.bytes (device.left reader.source.now)
