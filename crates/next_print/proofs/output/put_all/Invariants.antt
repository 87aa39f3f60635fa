use Rattle.std.proofs.Common.{◌≡◌, take}
use Rattle.std.specs.List.{flat_map}
use Rattle.next_print.specs.Passing.{Adds}
use Rattle.next_print.specs.Pieces.{piece_text}
use Rattle.next_print.proofs.output.put_all.Given as goal

abbrev pub invariant-loop-piece : goal.invariant-loop-piece
invariant-loop-piece g l = record {
  written : Adds (g.K.Sink.taken l.fn.sink) l.fn.page.items (g.K.Sink.taken l.sink) l.page.items (flat_map piece_text (take l.piece-index l.pieces));
  same : g.K.Sink.faults l.sink ≡ g.K.Sink.faults l.fn.sink;
}
