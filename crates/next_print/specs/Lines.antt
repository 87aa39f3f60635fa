-- The lines of a history.
use Rattle.std.specs.Prelude.{ℕ, List, [], ◌∷◌, ◌++◌, length, codes, decimal, flat_map, Option, Some, None}
use Rattle.std.specs.List.{concat}
use Rattle.next_ids.specs.Errnos.{text_of}
use Rattle.next_ids.specs.declared.ids.DirId.{DirId}
use Rattle.next_ids.specs.declared.ids.JobNo.{JobNo}
use Rattle.next_ids.specs.declared.ids.Node.{Node}
use Rattle.next_ids.specs.declared.ids.FileId.{FileId}
use Rattle.next_ids.specs.declared.ids.Node.TheVariants.{File}
use Rattle.next_ids.specs.declared.errno.Errno.{Errno}
use Rattle.next_ids.specs.declared.time.Ts.{Ts}
use Rattle.next_ids.specs.Times.{start}
use Rattle.next_ids.specs.declared.call.Call.{Call}
use Rattle.next_ids.specs.declared.call.Call.TheVariants.{Lookup, List as ListCall, StatRoot, Stat, Create, Mkdir, Unlink, Rmdir, Truncate, Rename}
use Rattle.next_ids.specs.declared.call.Reply.{Reply}
use Rattle.next_ids.specs.declared.call.Reply.TheVariants as reply
use Rattle.next_steps.specs.declared.line.Line.{Line}
use Rattle.next_steps.specs.declared.line.Outcome.{Outcome}
use Rattle.next_steps.specs.declared.line.Outcome.TheVariants as outcome
use Rattle.next_steps.specs.declared.line.HistoryItem.{HistoryItem}
use Rattle.next_steps.specs.declared.line.HistoryItem.TheVariants.{Line as LineItem, Forget}
use Rattle.next_print.specs.Pieces.{node_text, position_text}

-- the name of a call, a directory and a name in it
unfoldable pub named_call : List ℕ → DirId → List ℕ → List ℕ
named_call call dir name = concat (call ∷ codes " " ∷ decimal dir.0 ∷ codes " " ∷ name ∷ [])

-- the second directory and name of a rename
unfoldable pub to_text : DirId → List ℕ → List ℕ
to_text dir name = concat (codes " " ∷ decimal dir.0 ∷ codes " " ∷ name ∷ [])

-- the name of the call and its fields
unfoldable pub call_text : Call → List ℕ
call_text (Lookup dir name) = named_call (codes "lookup") dir name
call_text (ListCall dir) = concat (codes "list " ∷ decimal dir.0 ∷ [])
call_text StatRoot = codes "statroot"
call_text (Stat dir name) = named_call (codes "stat") dir name
call_text (Create dir name) = named_call (codes "create") dir name
call_text (Mkdir dir name) = named_call (codes "mkdir") dir name
call_text (Unlink dir name) = named_call (codes "unlink") dir name
call_text (Rmdir dir name) = named_call (codes "rmdir") dir name
call_text (Truncate file size) = concat (codes "truncate " ∷ decimal file.0 ∷ codes " " ∷ decimal size ∷ [])
call_text (Rename dir name to_dir to_name) = named_call (codes "rename") dir name ++ to_text to_dir to_name

-- r NAME NODE
unfoldable pub row_line : List ℕ × Node → List ℕ
row_line row = concat (codes "r " ∷ row.0 ∷ codes " " ∷ node_text (Some row.1) ∷ codes "\n" ∷ [])

-- the end of a line with rows, and the lines of the rows
unfoldable pub rows_head : ℕ → List ℕ
rows_head count = concat (codes " = rows " ∷ decimal count ∷ codes "\n" ∷ [])

unfoldable pub rows_text : List (List ℕ × Node) → List ℕ
rows_text rows = rows_head (length rows) ++ flat_map row_line rows

-- the ends of other lines
unfoldable pub node_end : Node → List ℕ
node_end node = concat (codes " = node " ∷ node_text (Some node) ∷ codes "\n" ∷ [])

unfoldable pub errno_end : Errno → List ℕ
errno_end errno = concat (codes " = " ∷ text_of errno ∷ codes "\n" ∷ [])

unfoldable pub dir_end : (children links : ℕ) (time : Ts) → List ℕ
dir_end children links time = concat (codes " = dir " ∷ decimal children ∷ codes " " ∷ decimal links ∷ codes " " ∷ decimal time.number ∷ codes "\n" ∷ [])

unfoldable pub file_end : (size : ℕ) (time : Ts) → List ℕ
file_end size time = concat (codes " = file " ∷ decimal size ∷ codes " " ∷ decimal time.number ∷ codes "\n" ∷ [])

unfoldable pub busy_end : JobNo → List ℕ
busy_end job = concat (codes " = BUSY " ∷ decimal job.0 ∷ codes "\n" ∷ [])

unfoldable pub moved_end : (ts : Ts) → Option Node → List ℕ
moved_end ts made = concat (codes " = ok " ∷ decimal ts.number ∷ codes " " ∷ node_text made ∷ codes "\n" ∷ [])

unfoldable pub unfinished_end : Option (Ts × Option Node) → List ℕ
unfinished_end None = codes " = unfinished - -\n"
unfinished_end (Some move) = concat (codes " = unfinished " ∷ decimal move.0.number ∷ codes " " ∷ node_text move.1 ∷ codes "\n" ∷ [])

-- = OUTCOME
abbrev pub reply_end : Reply → List ℕ
reply_end reply.Moved = moved_end start None
reply_end reply.Kept = codes " = kept\n"
reply_end (reply.Node node) = node_end node
reply_end (reply.Rows rows) = rows_text rows
reply_end (reply.DirStat children links time) = dir_end children links time
reply_end (reply.FileStat size time) = file_end size time
reply_end (reply.Refused errno) = errno_end errno
reply_end (reply.Busy job) = busy_end job

abbrev pub outcome_end : Outcome → List ℕ
outcome_end (outcome.Moved ts made) = moved_end ts made
outcome_end (outcome.Reply reply) = reply_end reply
outcome_end (outcome.Unfinished found) = unfinished_end found

-- l CLIENT FIRST AT LAST
unfoldable pub line_start : Line → List ℕ
line_start line = concat (codes "l " ∷ decimal line.client.0 ∷ codes " " ∷ decimal line.first ∷ codes " " ∷ position_text line.at ∷ codes " " ∷ position_text line.last ∷ codes " " ∷ [])

-- l CLIENT FIRST AT LAST CALL = OUTCOME
unfoldable pub line_text : Line → List ℕ
line_text line = line_start line ++ (call_text line.call ++ outcome_end line.outcome)

-- g AT FILE
unfoldable pub forget_text : (at : ℕ) → FileId → List ℕ
forget_text at file = concat (codes "g " ∷ decimal at ∷ codes " " ∷ node_text (Some (File file)) ∷ codes "\n" ∷ [])

unfoldable pub item_text : HistoryItem → List ℕ
item_text (LineItem line) = line_text line
item_text (Forget at file) = forget_text at file
