-- The whole text of a run.
use Rattle.std.specs.Prelude.{ℕ, List, ◌++◌, flat_map, Bool, true, false}
use Rattle.next_ids.specs.Maps.{how_many}
use Rattle.next_ids.specs.declared.call.Reply.{Reply as CallReply}
use Rattle.next_ids.specs.declared.call.Reply.TheVariants as answer
use Rattle.next_steps.specs.declared.line.Outcome.{Outcome}
use Rattle.next_steps.specs.declared.line.Outcome.TheVariants.{Moved, Reply, Unfinished}
use Rattle.next_steps.specs.declared.line.HistoryItem.{HistoryItem}
use Rattle.next_steps.specs.declared.line.HistoryItem.TheVariants.{Line as LineItem, Forget}
use Rattle.next_print.specs.declared.summary.Summary.{Summary}
use Rattle.next_print.specs.declared.printed.Printed.{Printed}
use Rattle.next_print.specs.Commands.{command_line}
use Rattle.next_print.specs.Lines.{item_text}
use Rattle.next_print.specs.Summaries.{head_lines, summary_line}
use Rattle.next_print.specs.Trees.{tree_lines, unnamed_lines}

-- whether an item is the line of a call
abbrev pub is_call : HistoryItem → Bool
is_call (LineItem line) = true
is_call (Forget at file) = false

-- whether an item is a forgotten file
abbrev pub is_forget : HistoryItem → Bool
is_forget (LineItem line) = false
is_forget (Forget at file) = true

-- whether it is that of a call that has no reply
abbrev pub has_no_reply : Outcome → Bool
has_no_reply (Moved ts made) = false
has_no_reply (Reply reply) = false
has_no_reply (Unfinished found) = true

abbrev pub is_unfinished : HistoryItem → Bool
is_unfinished (LineItem line) = has_no_reply line.outcome
is_unfinished (Forget at file) = false

-- whether a lock stood in the way of a call, so that it was answered busy
abbrev pub is_busy_reply : CallReply → Bool
is_busy_reply answer.Moved = false
is_busy_reply answer.Kept = false
is_busy_reply (answer.Node node) = false
is_busy_reply (answer.Rows rows) = false
is_busy_reply (answer.DirStat children links time) = false
is_busy_reply (answer.FileStat size time) = false
is_busy_reply (answer.Refused errno) = false
is_busy_reply (answer.Busy job) = true

abbrev pub is_busy_outcome : Outcome → Bool
is_busy_outcome (Moved ts made) = false
is_busy_outcome (Reply reply) = is_busy_reply reply
is_busy_outcome (Unfinished found) = false

abbrev pub is_busy : HistoryItem → Bool
is_busy (LineItem line) = is_busy_outcome line.outcome
is_busy (Forget at file) = false

-- the calls and the forgotten files of the history, the calls that were answered busy, and what is left to do
abbrev pub summary_of : Printed → Summary
summary_of p = record {
  steps = p.steps;
  calls = how_many is_call p.history;
  unfinished = how_many is_unfinished p.history;
  busy = how_many is_busy p.history;
  forgets = how_many is_forget p.history;
  owed = p.tally.owed;
  debts = p.tally.debts;
  marks = p.tally.marks;
  strays = p.tally.strays;
}

-- the commands, the calls, the tree and the files without a name
unfoldable pub run_lines : Printed → List ℕ
run_lines p = flat_map command_line p.replies ++ flat_map item_text p.history

unfoldable pub namespace_lines : Printed → List ℕ
namespace_lines p = tree_lines p.tree ++ unnamed_lines p.tree

-- the first lines, then those of the run, of the namespace, and the counts
unfoldable pub text : Printed → List ℕ
text p = head_lines p.shards p.stores ++ (run_lines p ++ (namespace_lines p ++ summary_line (summary_of p)))
