-- Where a call is. A call that has made no step is Asking; from then on its phase holds what it keeps: `first` is its
-- first step, `ts` its time, `at` the step of its move.
use Rattle.std.specs.Prelude.{ℕ, List as Bytes, Option}
use Rattle.next_ids.specs.declared.ids.DirId.{DirId}
use Rattle.next_ids.specs.declared.ids.FileId.{FileId}
use Rattle.next_ids.specs.declared.ids.JobNo.{JobNo}
use Rattle.next_ids.specs.declared.ids.Stamp.{Stamp}
use Rattle.next_ids.specs.declared.ids.At.{At}
use Rattle.next_ids.specs.declared.ids.Node.{Node}
use Rattle.next_ids.specs.declared.note.MarkNote.{MarkNote}
use Rattle.next_ids.specs.declared.time.Ts.{Ts}
use Rattle.next_ids.specs.declared.call.Call.{Call}
use Rattle.next_ids.specs.declared.call.Reply.{Reply}
use Rattle.next_steps.specs.declared.call_done.CallDone.{CallDone}

-- a list, a stat of the root, or a stat; a look-up is never here, as it has one step
pub data ReaderPhase : Type 0 where
  -- a list that found its directory marked
  ListHelping : DirId → MarkNote → (first : Stamp) → ReaderPhase
  -- a stat of the root that was told nothing
  RootLooking : (first : Stamp) → ReaderPhase
  -- a stat: it reads the row again
  StatReading : DirId → Bytes ℕ → (first : Stamp) → ReaderPhase
  -- the row names a directory
  StatLooking : DirId → Bytes ℕ → (child : DirId) → (first : Stamp) → ReaderPhase
  -- the directory is marked
  StatHelping : DirId → Bytes ℕ → MarkNote → (first : Stamp) → ReaderPhase
  -- the row, set at the step `row`, names a file
  StatGetting : DirId → Bytes ℕ → FileId → (row first : Stamp) → ReaderPhase
  -- the store told the size and the time, or that there is no file, at the step `got`
  StatChecking : DirId → Bytes ℕ → FileId → (row : Stamp) → Option (ℕ × Ts) → (got first : Stamp) → ReaderPhase

-- a create, mkdir, unlink or rename; a truncate is never here, as it has one step
pub data WriterPhase : Type 0 where
  -- a create or mkdir that has put its node
  Inserting : DirId → Bytes ℕ → Node → (ts : Ts) → (first : Stamp) → WriterPhase
  -- one that has set its row
  Settling : DirId → Bytes ℕ → Node → (ts : Ts) → (first at : Stamp) → WriterPhase
  -- one that found its directory marked
  MakeHelping : DirId → Bytes ℕ → Node → MarkNote → (first : Stamp) → WriterPhase
  -- one whose reply stands
  TakingBack : DirId → Bytes ℕ → Node → Reply → At → (first : Stamp) → WriterPhase
  -- an unlink or rename that has taken the name of a file
  Dropping : Call → FileId → (ts : Ts) → (first at : Stamp) → WriterPhase
  -- and has dropped the file
  Clearing : Call → FileId → (ts : Ts) → (first at : Stamp) → WriterPhase
  -- a rename that goes to the Renamer
  Submitting : (dir : DirId) → (name : Bytes ℕ) → (to_dir : DirId) → (to_name : Bytes ℕ) → (ts : Ts) → (first : Stamp)
      → WriterPhase
  -- and is there as a job
  Collecting : (dir : DirId) → (name : Bytes ℕ) → (to_dir : DirId) → (to_name : Bytes ℕ) → JobNo → (ts : Ts)
      → (first : Stamp) → WriterPhase

-- a rmdir of a name; it has a time from its first Mark on
pub data RemoverPhase : Type 0 where
  -- it reads the row again
  RowReading : DirId → Bytes ℕ → (ts : Option Ts) → (first : Stamp) → RemoverPhase
  -- the row names the directory `child`
  Marking : DirId → Bytes ℕ → (child : DirId) → (ts : Option Ts) → (first : Stamp) → RemoverPhase
  -- which has the mark of another
  MarkHelping : DirId → Bytes ℕ → MarkNote → (ts : Ts) → (first : Stamp) → RemoverPhase
  -- or has its own now
  Removing : DirId → Bytes ℕ → (child : DirId) → (ts : Ts) → (first : Stamp) → RemoverPhase
  -- the row was cut
  RecDropping : DirId → Bytes ℕ → (child : DirId) → (ts : Ts) → (first at : Stamp) → RemoverPhase
  -- and the record dropped
  RecClearing : DirId → Bytes ℕ → (child : DirId) → (ts : Ts) → (first at : Stamp) → RemoverPhase

pub data Phase : Type 0 where
  Asking : Call → Phase
  Reads : ReaderPhase → Phase
  Writes : WriterPhase → Phase
  Removes : RemoverPhase → Phase
  Finished : CallDone → Phase
