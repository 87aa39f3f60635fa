use Rattle.std.proofs.Common.{◌≡◌, true}
use Rattle.std.specs.Io.KnownBytes.{IsAtEnd, prepend_known}
use Rattle.next_io.specs.Ends.{TellsEndOnce}
use Rattle.next_io.proofs.Going.{IsGoing}
use Rattle.next_io.proofs.line_part.read_line.Given as goal

abbrev pub invariant-loop-line : goal.invariant-loop-line
invariant-loop-line g l = record {
  going : IsGoing l.fn.ahead.room l.ahead.room (prepend_known l.fn.ahead.bytes (g.S.Source.left l.fn.source)) (prepend_known l.ahead.bytes (g.S.Source.left l.source)) l.line;
  same : g.S.Source.faults l.source ≡ g.S.Source.faults l.fn.source;
  ends : TellsEndOnce l.fn.ahead.ended l.ahead.ended (g.S.Source.ends l.fn.source) (g.S.Source.ends l.source);
  ended : l.ahead.ended ≡ true → IsAtEnd (g.S.Source.left l.source);
}

abbrev pub decreases-loop-line : goal.decreases-loop-line
decreases-loop-line g l = l.ahead.room
