use Rattle.std.proofs.Common.{◌≡◌, take}
use Rattle.std.specs.List.{flat_map}
use Rattle.next_print.specs.Passing.{Adds}
use Rattle.next_print.specs.Lines.{item_text}
use Rattle.next_print.proofs.lines.put_history.Given as goal

abbrev pub invariant-loop-item : goal.invariant-loop-item
invariant-loop-item g l = record {
  written : Adds (g.K.Sink.taken l.fn.sink) l.fn.page.items (g.K.Sink.taken l.sink) l.page.items (flat_map item_text (take l.item-index l.items));
  same : g.K.Sink.faults l.sink ≡ g.K.Sink.faults l.fn.sink;
}
