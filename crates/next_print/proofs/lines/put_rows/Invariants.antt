use Rattle.std.proofs.Common.{◌≡◌, take}
use Rattle.std.specs.List.{flat_map}
use Rattle.next_print.specs.Passing.{Adds}
use Rattle.next_print.specs.Lines.{row_line}
use Rattle.next_print.proofs.lines.put_rows.Given as goal

abbrev pub invariant-loop-row : goal.invariant-loop-row
invariant-loop-row g l = record {
  written : Adds (g.K.Sink.taken l.fn.sink) l.fn.page.items (g.K.Sink.taken l.sink) l.page.items (flat_map row_line (take l.row-index l.rows));
  same : g.K.Sink.faults l.sink ≡ g.K.Sink.faults l.fn.sink;
}
