use Rattle.std.proofs.Common.{◌≡◌}
use Rattle.std.specs.List.{flat_map}
use Rattle.std.specs.FinMap.{entries}
use Rattle.next_print.specs.Trees.{rows_of}
use Rattle.next_print.proofs.Walked.{WrittenUpTo}
use Rattle.next_print.proofs.tree.put_dirs.Given as goal

abbrev pub invariant-loop-dir : goal.invariant-loop-dir
invariant-loop-dir g l = record {
  written : WrittenUpTo (g.K.Sink.taken l.fn.sink) l.fn.page.items (g.K.Sink.taken l.sink) l.page.items (flat_map (rows_of l.tree) (entries l.tree.dirs)) (flat_map (rows_of l.tree) l.dir-iterator);
  same : g.K.Sink.faults l.sink ≡ g.K.Sink.faults l.fn.sink;
}
