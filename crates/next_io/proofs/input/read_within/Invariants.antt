use Rattle.std.proofs.Common.{◌≡◌, ◌≤◌, ◌+◌, ◌-◌, length}
use Rattle.std.specs.Io.KnownBytes.{Consumes}
use Rattle.next_io.proofs.input.read_within.Given as goal

abbrev pub invariant-loop-piece : goal.invariant-loop-piece
invariant-loop-piece g l = record {
  first : Consumes (g.S.Source.left l.fn.source) (g.S.Source.left l.source) l.bytes.items;
  bound : length l.bytes.items ≤ l.most + 1;
  same : g.S.Source.faults l.source ≡ g.S.Source.faults l.fn.source;
  same_ends : g.S.Source.ends l.source ≡ g.S.Source.ends l.fn.source;
}

abbrev pub decreases-loop-piece : goal.decreases-loop-piece
decreases-loop-piece g l = (l.most + 1) - length l.bytes.items
