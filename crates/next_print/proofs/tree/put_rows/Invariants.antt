use Rattle.std.proofs.Common.{◌≡◌}
use Rattle.std.specs.List.{flat_map}
use Rattle.std.specs.FinMap.{entries}
use Rattle.next_print.specs.Trees.{row_line}
use Rattle.next_print.proofs.Walked.{WrittenUpTo}
use Rattle.next_print.proofs.tree.put_rows.Given as goal

abbrev pub invariant-loop-name : goal.invariant-loop-name
invariant-loop-name g l = record {
  written : WrittenUpTo (g.K.Sink.taken l.fn.sink) l.fn.page.items (g.K.Sink.taken l.sink) l.page.items (flat_map (row_line l.tree l.dir) (entries l.directory.names)) (flat_map (row_line l.tree l.dir) l.name-iterator);
  same : g.K.Sink.faults l.sink ≡ g.K.Sink.faults l.fn.sink;
}
