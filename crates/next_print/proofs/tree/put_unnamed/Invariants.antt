use Rattle.std.proofs.Common.{◌≡◌}
use Rattle.std.specs.List.{flat_map}
use Rattle.std.specs.FinMap.{entries}
use Rattle.next_print.specs.Trees.{unnamed_line}
use Rattle.next_print.proofs.Walked.{WrittenUpTo}
use Rattle.next_print.proofs.tree.put_unnamed.Given as goal

abbrev pub invariant-loop-file : goal.invariant-loop-file
invariant-loop-file g l = record {
  written : WrittenUpTo (g.K.Sink.taken l.fn.sink) l.fn.page.items (g.K.Sink.taken l.sink) l.page.items (flat_map (unnamed_line l.tree) (entries l.tree.files)) (flat_map (unnamed_line l.tree) l.file-iterator);
  same : g.K.Sink.faults l.sink ≡ g.K.Sink.faults l.fn.sink;
}
