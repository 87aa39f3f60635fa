-- A rmdir, step by step: it marks the empty directory, cuts its row, and drops its record. Who meets the mark meanwhile
-- cuts the row for it.
use Rattle.std.specs.Prelude.{ℕ, List as Bytes, Option, Some, None}
use Rattle.next_ids.specs.declared.ids.DirId.{DirId}
use Rattle.next_ids.specs.declared.ids.Client.{Client}
use Rattle.next_ids.specs.declared.ids.Stamp.{Stamp}
use Rattle.next_ids.specs.declared.ids.Node.TheVariants.{Dir, File}
use Rattle.next_ids.specs.declared.errno.Errno.TheVariants.{Enoent, Enotdir, Enotempty}
use Rattle.next_ids.specs.declared.note.MarkNote.{MarkNote}
use Rattle.next_ids.specs.declared.time.Ts.{Ts}
use Rattle.next_ids.specs.declared.call.Call.{Call}
use Rattle.next_ids.specs.declared.call.Call.TheVariants.{Rmdir}
use Rattle.next_ids.specs.declared.call.Reply.TheVariants as reply
use Rattle.next_steps.specs.declared.ask.Ask.{Ask}
use Rattle.next_steps.specs.declared.ask.Ask.TheVariants as ask
use Rattle.next_steps.specs.declared.answer.Answer.{Answer}
use Rattle.next_steps.specs.declared.answer.Answer.TheVariants as answer
use Rattle.next_steps.specs.Asks.{shard_of}
use Rattle.next_steps.specs.Phases.{Phase, Removes, RemoverPhase, RowReading, Marking, MarkHelping, Removing, RecDropping, RecClearing}
use Rattle.next_steps.specs.Ends.{told, moved}

-- the note of a client's own mark
abbrev pub note_of : Client → DirId → Bytes ℕ → (child : DirId) → Ts → MarkNote
note_of client dir name child ts = record { owner = client; child = child; dir = dir; name = name; ts = ts }

-- ---- what a rmdir that has made a step asks next
-- its first Mark fixes its time
abbrev pub ts_or : Option Ts → (last : Ts) → Ts
ts_or None last = last
ts_or (Some ts) last = ts

abbrev pub ask_removing : Client → (last : Ts) → RemoverPhase → Ask
ask_removing client last (RowReading dir name ts first) = ask.Read dir name
ask_removing client last (Marking dir name child ts first) = ask.Mark client child dir name (ts_or ts last)
ask_removing client last (MarkHelping dir name note ts first) = ask.Remove note
ask_removing client last (Removing dir name child ts first) = ask.Remove (note_of client dir name child ts)
ask_removing client last (RecDropping dir name child ts first at) = ask.DropRec child
ask_removing client last (RecClearing dir name child ts first at) = ask.Clear (shard_of dir) (Dir child)

-- ---- what it makes of the answer of the step s; an answer that no line names leaves it where it is
abbrev pub heard_name : DirId → Bytes ℕ → (ts : Option Ts) → (first s : Stamp) → Answer → Phase
heard_name dir name ts first s answer.Absent = told (Rmdir dir name) first s (reply.Refused Enoent)
heard_name dir name ts first s (answer.Found (File file) row) = told (Rmdir dir name) first s (reply.Refused Enotdir)
heard_name dir name ts first s (answer.Found (Dir child) row) = Removes (Marking dir name child ts first)
heard_name dir name ts first s (answer.Locked job) = told (Rmdir dir name) first s (reply.Busy job)
heard_name dir name ts first s _ = Removes (RowReading dir name ts first)

-- ts is the time that the Mark had
abbrev pub heard_mark : DirId → Bytes ℕ → (child : DirId) → (ts : Ts) → (first s : Stamp) → Answer → Phase
heard_mark dir name child ts first s answer.Gone = Removes (RowReading dir name (Some ts) first)
heard_mark dir name child ts first s (answer.Leaving note) = Removes (MarkHelping dir name note ts first)
heard_mark dir name child ts first s (answer.Locked job) = told (Rmdir dir name) first s (reply.Busy job)
heard_mark dir name child ts first s answer.NotEmpty = told (Rmdir dir name) first s (reply.Refused Enotempty)
heard_mark dir name child ts first s (answer.Done replaced) = Removes (Removing dir name child ts first)
heard_mark dir name child ts first s _ = Removes (Marking dir name child (Some ts) first)

-- the move is this step, or the step of the one that helped
abbrev pub heard_remove : DirId → Bytes ℕ → (child : DirId) → (ts : Ts) → (first s : Stamp) → Answer → Phase
heard_remove dir name child ts first s (answer.Done replaced) = Removes (RecDropping dir name child ts first s)
heard_remove dir name child ts first s (answer.Already stamp) = Removes (RecDropping dir name child ts first stamp)
heard_remove dir name child ts first s _ = Removes (Removing dir name child ts first)

-- asked is the time of the step's ask
abbrev pub heard_removing : RemoverPhase → (s : Stamp) → (asked : Ts) → Answer → Phase
heard_removing (RowReading dir name ts first) s asked a = heard_name dir name ts first s a
heard_removing (Marking dir name child ts first) s asked a = heard_mark dir name child asked first s a
heard_removing (MarkHelping dir name note ts first) s asked a = Removes (RowReading dir name (Some ts) first)
heard_removing (Removing dir name child ts first) s asked a = heard_remove dir name child ts first s a
heard_removing (RecDropping dir name child ts first at) s asked a = Removes (RecClearing dir name child ts first at)
heard_removing (RecClearing dir name child ts first at) s asked a = moved (Rmdir dir name) ts None first at s

-- ---- the call, and its first step
abbrev pub begun_removing : RemoverPhase → Call × Stamp
begun_removing (RowReading dir name ts first) = (Rmdir dir name, first)
begun_removing (Marking dir name child ts first) = (Rmdir dir name, first)
begun_removing (MarkHelping dir name note ts first) = (Rmdir dir name, first)
begun_removing (Removing dir name child ts first) = (Rmdir dir name, first)
begun_removing (RecDropping dir name child ts first at) = (Rmdir dir name, first)
begun_removing (RecClearing dir name child ts first at) = (Rmdir dir name, first)
