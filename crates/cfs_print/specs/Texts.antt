-- The whole text of a run.
use Rattle.std.specs.Prelude.{ℕ, List, ◌++◌, flat_map, Bool, true, false}
use Rattle.cfs_ids.specs.Maps.{how_many}
use Rattle.cfs_steps.specs.declared.line.Outcome.{Outcome}
use Rattle.cfs_steps.specs.declared.line.Outcome.TheVariants.{Moved, Reply, Unfinished}
use Rattle.cfs_steps.specs.declared.line.HistoryItem.{HistoryItem}
use Rattle.cfs_steps.specs.declared.line.HistoryItem.TheVariants.{Line as LineItem}
use Rattle.cfs_print.specs.declared.summary.Summary.{Summary}
use Rattle.cfs_print.specs.declared.printed.Printed.{Printed}
use Rattle.cfs_print.specs.Commands.{command_line}
use Rattle.cfs_print.specs.Lines.{item_text}
use Rattle.cfs_print.specs.Summaries.{head_lines, summary_line}
use Rattle.cfs_print.specs.Trees.{tree_lines, unnamed_lines}

-- whether an item is the line of a call, and of one that has no reply
abbrev pub is_call : HistoryItem → Bool
is_call (LineItem line) = true

abbrev pub has_no_reply : Outcome → Bool
has_no_reply (Moved ts made) = false
has_no_reply (Reply reply) = false
has_no_reply (Unfinished found) = true

abbrev pub is_unfinished : HistoryItem → Bool
is_unfinished (LineItem line) = has_no_reply line.outcome

-- no call is refused as busy, and nothing is forgotten
abbrev pub summary_of : Printed → Summary
summary_of p = record {
  steps = p.steps;
  calls = how_many is_call p.history;
  unfinished = how_many is_unfinished p.history;
  busy = 0;
  forgets = 0;
  owed = p.tally.owed;
  debts = p.tally.debts;
  marks = p.tally.marks;
  strays = p.tally.strays;
}

-- the commands, the calls, the tree and the files without a name
unfoldable pub run_lines : Printed → List ℕ
run_lines p = flat_map command_line p.replies ++ flat_map item_text p.history

unfoldable pub namespace_lines : Printed → List ℕ
namespace_lines p = tree_lines p.tree ++ unnamed_lines p.tree

-- the first lines, then those of the run, of the namespace, and the counts
unfoldable pub text : Printed → List ℕ
text p = head_lines p.shards p.stores ++ (run_lines p ++ (namespace_lines p ++ summary_line (summary_of p)))
