-- Where the Renamer is in its job.
use Rattle.std.specs.Prelude.{ℕ, List, List as Bytes, Option}
use Rattle.next_ids.specs.declared.ids.DirId.{DirId}
use Rattle.next_ids.specs.declared.ids.FileId.{FileId}
use Rattle.next_ids.specs.declared.ids.Client.{Client}
use Rattle.next_ids.specs.declared.ids.JobNo.{JobNo}
use Rattle.next_ids.specs.declared.ids.Stamp.{Stamp}
use Rattle.next_ids.specs.declared.ids.At.{At}
use Rattle.next_ids.specs.declared.ids.Node.{Node}
use Rattle.next_ids.specs.declared.note.MarkNote.{MarkNote}
use Rattle.next_ids.specs.declared.time.Ts.{Ts}
use Rattle.next_ids.specs.declared.call.Reply.{Reply}

-- a job as it was taken
pub record Task : Type 0 where
  pub job : JobNo
  pub client : Client
  pub dir : DirId
  pub name : Bytes ℕ
  pub to_dir : DirId
  pub to_name : Bytes ℕ
  pub ts : Ts

-- a lock that the job holds: on the new name, on the record of the directory there, on the old name, on the record of
-- the directory there
pub data Hold : Type 0 where
  TargetRow : Hold
  TargetRec : DirId → Hold
  SourceRow : Hold
  SourceRec : DirId → Hold

pub data JobPhase : Type 0 where
  Waiting : JobPhase
  -- the row at the old name
  SourceReading : Task → JobPhase
  -- it names a file: the file is settled, and its name locked
  SourceSettling : Task → FileId → JobPhase
  FileLocking : Task → FileId → JobPhase
  -- it names a directory: its record is locked, and then its name
  RecLocking : Task → DirId → JobPhase
  RecHelping : Task → MarkNote → JobPhase
  DirLocking : Task → DirId → JobPhase
  -- the source is locked; now the new name
  TargetLocking : Task → Node → JobPhase
  TargetHelping : Task → Node → MarkNote → JobPhase
  -- a directory has the new name: it is locked to be replaced, and then the name
  OldLocking : Task → (source old : DirId) → JobPhase
  OldHelping : Task → (source : DirId) → MarkNote → JobPhase
  OldRowLocking : Task → (source old : DirId) → JobPhase
  -- upward from the new name's directory, whether the source is met
  Climbing : Task → (source : DirId) → (old : Option DirId) → (here : DirId) → JobPhase
  -- all is locked
  Committing : Task → Node → JobPhase
  -- the rename was committed at the step, and replaced this node
  SourceCutting : Task → Node → Option Node → (at : Stamp) → JobPhase
  Rebasing : Task → DirId → Option Node → (at : Stamp) → JobPhase
  TargetUnlocking : Task → Option Node → (at : Stamp) → JobPhase
  OldDropping : Task → Node → (at : Stamp) → JobPhase
  OldClearing : Task → Node → (at : Stamp) → JobPhase
  -- refused: the locks are released one by one
  Releasing : Task → Hold → List Hold → Reply → At → JobPhase
  Replying : Task → Reply → At → JobPhase
