-- The Renamer's job, step by step: what it makes of each answer.
use Rattle.std.specs.Prelude.{◌==◌, List, [], ◌∷◌, ◌++◌, Option, Some, None, if◌then◌else◌}
use Rattle.next_ids.specs.declared.ids.DirId.{DirId}
use Rattle.next_ids.specs.declared.ids.FileId.{FileId}
use Rattle.next_ids.specs.declared.ids.PlaceNo.{PlaceNo}
use Rattle.next_ids.specs.declared.ids.Stamp.{Stamp}
use Rattle.next_ids.specs.declared.ids.At.{At}
use Rattle.next_ids.specs.declared.ids.At.TheVariants.{Step, Before, After}
use Rattle.next_ids.specs.declared.ids.Node.{Node}
use Rattle.next_ids.specs.declared.ids.Node.TheVariants.{Dir, File}
use Rattle.next_ids.specs.declared.errno.Errno.{Errno}
use Rattle.next_ids.specs.declared.errno.Errno.TheVariants.{Enoent, Enotdir, Eisdir, Enotempty, Einval, Emlink}
use Rattle.next_ids.specs.declared.call.Reply.{Reply}
use Rattle.next_ids.specs.declared.call.Reply.TheVariants as reply
use Rattle.next_steps.specs.declared.answer.Answer.{Answer}
use Rattle.next_steps.specs.declared.answer.Answer.TheVariants as answer
use Rattle.next_steps.specs.declared.entry.Entry.{Entry}
use Rattle.next_steps.specs.Ends.{stamp_of}
use Rattle.next_steps.specs.JobPhases.{Task, Hold, TargetRow, TargetRec, SourceRow, SourceRec, JobPhase, Waiting, SourceReading, SourceSettling, FileLocking, RecLocking, RecHelping, DirLocking, TargetLocking, TargetHelping, OldLocking, OldHelping, OldRowLocking, Climbing, Committing, SourceCutting, Rebasing, TargetUnlocking, OldDropping, OldClearing, Releasing, Replying}

-- ---- a refusal releases what is held, the new name first
abbrev pub released : Task → List Hold → Reply → At → JobPhase
released t [] reply at = Replying t reply at
released t (hold ∷ rest) reply at = Releasing t hold rest reply at

abbrev pub source_holds : Node → List Hold
source_holds (File file) = SourceRow ∷ []
source_holds (Dir dir) = SourceRow ∷ SourceRec dir ∷ []

abbrev pub old_holds : Option DirId → List Hold
old_holds None = []
old_holds (Some old) = TargetRec old ∷ []

abbrev pub refused : Task → List Hold → Errno → At → JobPhase
refused t holds errno at = released t holds (reply.Refused errno) at

-- ---- what the job makes of the answer of the step s; an answer that no line names leaves it where it is
abbrev pub heard_source : Task → (s : Stamp) → Answer → JobPhase
heard_source t s answer.Absent = refused t [] Enoent (Before s)
heard_source t s (answer.Found (File file) row) = SourceSettling t file
heard_source t s (answer.Found (Dir source) row) = RecLocking t source
heard_source t s _ = SourceReading t

abbrev pub heard_file : Task → FileId → Answer → JobPhase
heard_file t file (answer.Done replaced) = TargetLocking t (File file)
heard_file t file answer.NoDir = SourceReading t
heard_file t file (answer.Leaving note) = SourceReading t
heard_file t file (answer.Changed found) = SourceReading t
heard_file t file _ = FileLocking t file

abbrev pub heard_rec : Task → (source : DirId) → Answer → JobPhase
heard_rec t source (answer.Done replaced) = DirLocking t source
heard_rec t source answer.Gone = SourceReading t
heard_rec t source (answer.Leaving note) = RecHelping t note
heard_rec t source _ = RecLocking t source

abbrev pub heard_dir : Task → (source : DirId) → Answer → JobPhase
heard_dir t source (answer.Done replaced) = TargetLocking t (Dir source)
heard_dir t source _ = DirLocking t source

-- the walk upward, once it has reached `here`: the source is met, the root is met, or it goes on
abbrev pub climbed : Task → (source : DirId) → Option DirId → (here : DirId) → (s : Stamp) → JobPhase
climbed t source old here s =
    if here.0 == source.0
    then refused t (TargetRow ∷ old_holds old ++ source_holds (Dir source)) Einval (After s)
    else (if here.0 == 0 then Committing t (Dir source) else Climbing t source old here)

abbrev pub target_locked : Task → Node → Option DirId → (s : Stamp) → JobPhase
target_locked t (File file) old s = Committing t (File file)
target_locked t (Dir source) old s = climbed t source old t.to_dir s

-- what has the new name isn't as wanted
abbrev pub target_changed : Task → (node : Node) → (found : Option Node) → (s : Stamp) → JobPhase
target_changed t (File file) found s = refused t (source_holds (File file)) Eisdir (Before s)
target_changed t (Dir source) (Some (File file)) s = refused t (source_holds (Dir source)) Enotdir (Before s)
target_changed t (Dir source) (Some (Dir old)) s = OldLocking t source old
target_changed t (Dir source) None s = TargetLocking t (Dir source)

abbrev pub heard_target : Task → Node → (s : Stamp) → Answer → JobPhase
heard_target t node s (answer.Done replaced) = target_locked t node None s
heard_target t node s answer.NoDir = refused t (source_holds node) Enoent (Before s)
heard_target t node s (answer.Leaving note) = TargetHelping t node note
heard_target t node s (answer.Changed found) = target_changed t node found s
heard_target t node s answer.Full = refused t (source_holds node) Emlink (Before s)
heard_target t node s _ = TargetLocking t node

abbrev pub heard_old : Task → (source old : DirId) → (s : Stamp) → Answer → JobPhase
heard_old t source old s (answer.Done replaced) = OldRowLocking t source old
heard_old t source old s answer.Gone = TargetLocking t (Dir source)
heard_old t source old s (answer.Leaving note) = OldHelping t source note
heard_old t source old s answer.NotEmpty = refused t (source_holds (Dir source)) Enotempty (Before s)
heard_old t source old s _ = OldLocking t source old

abbrev pub heard_old_row : Task → (source old : DirId) → (s : Stamp) → Answer → JobPhase
heard_old_row t source old s (answer.Done replaced) = target_locked t (Dir source) (Some old) s
heard_old_row t source old s _ = OldRowLocking t source old

abbrev pub heard_up : Task → (source : DirId) → Option DirId → (here : DirId) → (s : Stamp) → Answer → JobPhase
heard_up t source old here s (answer.Parent parent) = climbed t source old parent s
heard_up t source old here s answer.Top = Committing t (Dir source)
heard_up t source old here s _ = Climbing t source old here

-- ---- after the commit
abbrev pub source_cut : Task → Node → Option Node → (at : Stamp) → JobPhase
source_cut t (File file) replaced at = TargetUnlocking t replaced at
source_cut t (Dir source) replaced at = Rebasing t source replaced at

abbrev pub heard_commit : Task → Node → (s : Stamp) → Answer → JobPhase
heard_commit t node s (answer.Done replaced) =
    if t.dir.0 == t.to_dir.0 then source_cut t node replaced s else SourceCutting t node replaced s
heard_commit t node s _ = Committing t node

abbrev pub target_unlocked : Task → Option Node → (at : Stamp) → JobPhase
target_unlocked t None at = Replying t reply.Moved (Step at)
target_unlocked t (Some old) at = OldDropping t old at

abbrev pub heard_waiting : Answer → JobPhase
heard_waiting (answer.Job job client dir name to_dir to_name ts) = SourceReading (record {
  job = job;
  client = client;
  dir = dir;
  name = name;
  to_dir = to_dir;
  to_name = to_name;
  ts = ts;
})
heard_waiting _ = Waiting

abbrev pub heard_job_as : JobPhase → (s : Stamp) → Answer → JobPhase
heard_job_as Waiting s a = heard_waiting a
heard_job_as (SourceReading t) s a = heard_source t s a
heard_job_as (SourceSettling t file) s a = FileLocking t file
heard_job_as (FileLocking t file) s a = heard_file t file a
heard_job_as (RecLocking t source) s a = heard_rec t source a
heard_job_as (RecHelping t note) s a = SourceReading t
heard_job_as (DirLocking t source) s a = heard_dir t source a
heard_job_as (TargetLocking t node) s a = heard_target t node s a
heard_job_as (TargetHelping t node note) s a = refused t (source_holds node) Enoent (After s)
heard_job_as (OldLocking t source old) s a = heard_old t source old s a
heard_job_as (OldHelping t source note) s a = TargetLocking t (Dir source)
heard_job_as (OldRowLocking t source old) s a = heard_old_row t source old s a
heard_job_as (Climbing t source old here) s a = heard_up t source old here s a
heard_job_as (Committing t node) s a = heard_commit t node s a
heard_job_as (SourceCutting t node replaced at) s a = source_cut t node replaced at
heard_job_as (Rebasing t source replaced at) s a = TargetUnlocking t replaced at
heard_job_as (TargetUnlocking t replaced at) s a = target_unlocked t replaced at
heard_job_as (OldDropping t old at) s a = OldClearing t old at
heard_job_as (OldClearing t old at) s a = Replying t reply.Moved (Step at)
heard_job_as (Releasing t hold rest reply at) s a = released t rest reply at
heard_job_as (Replying t reply at) s a = Waiting

-- the job after the entry of its step
abbrev pub heard_job : JobPhase → PlaceNo → Entry → JobPhase
heard_job phase place entry = heard_job_as phase (stamp_of place entry) entry.answer
