-- By an answer of what is there, the Renamer's job goes on with what is there.
use Rattle.std.proofs.Common.{ℕ, List, [], ◌∷◌, ◌++◌, Bool, true, false}
use Rattle.std.specs.Prelude.{Option, Some, None, if◌then◌else◌, ◌==◌}
use Rattle.next_ids.specs.declared.ids.At.{At}
use Rattle.next_ids.specs.declared.ids.At.TheVariants.{Before, After}
use Rattle.next_ids.specs.declared.ids.DirId.{DirId}
use Rattle.next_ids.specs.declared.ids.FileId.{FileId}
use Rattle.next_ids.specs.declared.ids.Stamp.{Stamp}
use Rattle.next_ids.specs.declared.ids.Node.{Node}
use Rattle.next_ids.specs.declared.ids.Node.TheVariants.{Dir, File}
use Rattle.next_ids.specs.declared.counts.Counts.{Counts}
use Rattle.next_ids.specs.declared.errno.Errno.{Errno}
use Rattle.next_ids.specs.declared.errno.Errno.TheVariants.{Enoent, Enotdir, Eisdir, Enotempty, Einval, Emlink}
use Rattle.next_ids.specs.declared.call.Reply.{Reply}
use Rattle.next_ids.specs.declared.call.Reply.TheVariants as reply
use Rattle.next_steps.specs.declared.answer.Answer.{Answer}
use Rattle.next_steps.specs.declared.answer.Answer.TheVariants as answer
use Rattle.next_steps.specs.JobPhases.{Task, Hold, TargetRow, JobPhase, Waiting, SourceReading, SourceSettling, FileLocking, RecLocking, RecHelping, DirLocking, TargetLocking, TargetHelping, OldLocking, OldHelping, OldRowLocking, Climbing, Committing, SourceCutting, Rebasing, TargetUnlocking, OldDropping, OldClearing, Releasing, Replying}
use Rattle.next_steps.specs.Jobs.{released, source_holds, old_holds, refused, heard_source, heard_file, heard_rec, heard_dir, climbed, target_locked, target_changed, heard_target, heard_old, heard_old_row, heard_up, source_cut, heard_commit, target_unlocked, heard_waiting, heard_job_as}
use Rattle.next_laws_order.proofs.Lists.{Every, Every-append}
use Rattle.next_laws_reach.proofs.Maps.{IfThere}
use Rattle.next_laws_reach.proofs.There.{DirThere, FileThere, NodeThere, ReplyThere, AnswerThere, TaskThere, HoldThere, JobPhaseThere}

module _ (counts : Counts) (place : ℕ) where
  waiting-heard : (a : Answer) → AnswerThere counts place a → JobPhaseThere counts (heard_waiting a)
  waiting-heard (answer.Job job client dir name to_dir to_name ts) h = (h.0, h.1)
  waiting-heard _ h = tt

  module _ (t : Task) (task : TaskThere counts t) where
    -- ---- a refusal
    release-there : (holds : List Hold) (r : Reply) (at : At) → Every (HoldThere counts) holds → ReplyThere counts r → JobPhaseThere counts (released t holds r at)
    release-there [] r at h k = k
    release-there (hold ∷ rest) r at h k = (task, h.0, h.1, k)

    source-holds : (node : Node) → NodeThere counts node → Every (HoldThere counts) (source_holds node)
    source-holds (File file) h = (tt, tt)
    source-holds (Dir dir) h = (tt, (h, tt))

    old-holds : (old : Option DirId) → IfThere (DirThere counts) old → Every (HoldThere counts) (old_holds old)
    old-holds None h = tt
    old-holds (Some old) h = (h, tt)

    source-refused : (node : Node) (errno : Errno) (at : At) → NodeThere counts node → JobPhaseThere counts (refused t (source_holds node) errno at)
    source-refused node errno at h = release-there (source_holds node) (reply.Refused errno) at (source-holds node h) tt

    -- ---- the old name
    source-heard : (s : Stamp) (a : Answer) → AnswerThere counts place a → JobPhaseThere counts (heard_source t s a)
    source-heard s answer.Absent a = tt
    source-heard s (answer.Found (File file) row) a = (task, a)
    source-heard s (answer.Found (Dir source) row) a = (task, a)
    source-heard s _ a = task

    file-heard : (file : FileId) (a : Answer) → FileThere counts file → JobPhaseThere counts (heard_file t file a)
    file-heard file (answer.Done replaced) h = (task, h)
    file-heard file answer.NoDir h = task
    file-heard file (answer.Leaving note) h = task
    file-heard file (answer.Changed found) h = task
    file-heard file _ h = (task, h)

    rec-heard : (source : DirId) (a : Answer) → DirThere counts source → AnswerThere counts place a → JobPhaseThere counts (heard_rec t source a)
    rec-heard source (answer.Done replaced) h a = (task, h)
    rec-heard source answer.Gone h a = task
    rec-heard source (answer.Leaving note) h a = (task, a)
    rec-heard source _ h a = (task, h)

    dir-heard : (source : DirId) (a : Answer) → DirThere counts source → JobPhaseThere counts (heard_dir t source a)
    dir-heard source (answer.Done replaced) h = (task, h)
    dir-heard source _ h = (task, h)

    -- ---- the new name
    climb-there : (source : DirId) (old : Option DirId) (here : DirId) (s : Stamp) → DirThere counts source → IfThere (DirThere counts) old → DirThere counts here → JobPhaseThere counts (climbed t source old here s)
    climb-there source old here s h o up = by_tests (here.0 == source.0) (here.0 == 0)
      where
        by_tests : (met top : Bool) → JobPhaseThere counts (if met
            then refused t (TargetRow ∷ old_holds old ++ source_holds (Dir source)) Einval (After s)
            else (if top then Committing t (Dir source) else Climbing t source old here))
        by_tests true top = (task, tt, Every-append (HoldThere counts) (old_holds old) (source_holds (Dir source)) (old-holds old o) (source-holds (Dir source) h), tt)
        by_tests false true = (task, h)
        by_tests false false = (task, h, o, up)

    target-locked : (node : Node) (old : Option DirId) (s : Stamp) → NodeThere counts node → IfThere (DirThere counts) old → JobPhaseThere counts (target_locked t node old s)
    target-locked (File file) old s h o = (task, h)
    target-locked (Dir source) old s h o = climb-there source old t.to_dir s h o task.1

    target-changed : (node : Node) (found : Option Node) (s : Stamp) → NodeThere counts node → IfThere (NodeThere counts) found → JobPhaseThere counts (target_changed t node found s)
    target-changed (File file) found s h f = source-refused (File file) Eisdir (Before s) h
    target-changed (Dir source) (Some (File file)) s h f = source-refused (Dir source) Enotdir (Before s) h
    target-changed (Dir source) (Some (Dir old)) s h f = (task, h, f)
    target-changed (Dir source) None s h f = (task, h)

    target-heard : (node : Node) (s : Stamp) (a : Answer) → NodeThere counts node → AnswerThere counts place a → JobPhaseThere counts (heard_target t node s a)
    target-heard node s (answer.Done replaced) h a = target-locked node None s h tt
    target-heard node s answer.NoDir h a = source-refused node Enoent (Before s) h
    target-heard node s (answer.Leaving note) h a = (task, h, a)
    target-heard node s (answer.Changed found) h a = target-changed node found s h a
    target-heard node s answer.Full h a = source-refused node Emlink (Before s) h
    target-heard node s _ h a = (task, h)

    old-heard : (source old : DirId) (s : Stamp) (a : Answer) → DirThere counts source → DirThere counts old → AnswerThere counts place a → JobPhaseThere counts (heard_old t source old s a)
    old-heard source old s (answer.Done replaced) h o a = (task, h, o)
    old-heard source old s answer.Gone h o a = (task, h)
    old-heard source old s (answer.Leaving note) h o a = (task, h, a)
    old-heard source old s answer.NotEmpty h o a = source-refused (Dir source) Enotempty (Before s) h
    old-heard source old s _ h o a = (task, h, o)

    old_row-heard : (source old : DirId) (s : Stamp) (a : Answer) → DirThere counts source → DirThere counts old → JobPhaseThere counts (heard_old_row t source old s a)
    old_row-heard source old s (answer.Done replaced) h o = target-locked (Dir source) (Some old) s h o
    old_row-heard source old s _ h o = (task, h, o)

    up-heard : (source : DirId) (old : Option DirId) (here : DirId) (s : Stamp) (a : Answer) → DirThere counts source → IfThere (DirThere counts) old → DirThere counts here → AnswerThere counts place a → JobPhaseThere counts (heard_up t source old here s a)
    up-heard source old here s (answer.Parent parent) h o up a = climb-there source old parent s h o a
    up-heard source old here s answer.Top h o up a = (task, h)
    up-heard source old here s _ h o up a = (task, h, o, up)

    -- ---- after the commit
    source-cut : (node : Node) (replaced : Option Node) (at : Stamp) → NodeThere counts node → IfThere (NodeThere counts) replaced → JobPhaseThere counts (source_cut t node replaced at)
    source-cut (File file) replaced at h r = (task, r)
    source-cut (Dir source) replaced at h r = (task, h, r)

    commit-heard : (node : Node) (s : Stamp) (a : Answer) → NodeThere counts node → AnswerThere counts place a → JobPhaseThere counts (heard_commit t node s a)
    commit-heard node s (answer.Done replaced) h a = by_test (t.dir.0 == t.to_dir.0)
      where
        by_test : (b : Bool) → JobPhaseThere counts (if b then source_cut t node replaced s else SourceCutting t node replaced s)
        by_test true = source-cut node replaced s h a
        by_test false = (task, h, a)
    commit-heard node s _ h a = (task, h)

    target-unlocked : (replaced : Option Node) (at : Stamp) → IfThere (NodeThere counts) replaced → JobPhaseThere counts (target_unlocked t replaced at)
    target-unlocked None at r = tt
    target-unlocked (Some old) at r = (task, r)

  -- ---- the job
  pub job-heard : (p : JobPhase) (s : Stamp) (a : Answer) → JobPhaseThere counts p → AnswerThere counts place a → JobPhaseThere counts (heard_job_as p s a)
  job-heard Waiting s a h r = waiting-heard a r
  job-heard (SourceReading t) s a h r = source-heard t h s a r
  job-heard (SourceSettling t file) s a h r = h
  job-heard (FileLocking t file) s a h r = file-heard t h.0 file a h.1
  job-heard (RecLocking t source) s a h r = rec-heard t h.0 source a h.1 r
  job-heard (RecHelping t note) s a h r = h.0
  job-heard (DirLocking t source) s a h r = dir-heard t h.0 source a h.1
  job-heard (TargetLocking t node) s a h r = target-heard t h.0 node s a h.1 r
  job-heard (TargetHelping t node note) s a h r = source-refused t h.0 node Enoent (After s) h.1
  job-heard (OldLocking t source old) s a h r = old-heard t h.0 source old s a h.1 h.2 r
  job-heard (OldHelping t source note) s a h r = (h.0, h.1)
  job-heard (OldRowLocking t source old) s a h r = old_row-heard t h.0 source old s a h.1 h.2
  job-heard (Climbing t source old here) s a h r = up-heard t h.0 source old here s a h.1 h.2 h.3 r
  job-heard (Committing t node) s a h r = commit-heard t h.0 node s a h.1 r
  job-heard (SourceCutting t node replaced at) s a h r = source-cut t h.0 node replaced at h.1 h.2
  job-heard (Rebasing t source replaced at) s a h r = (h.0, h.2)
  job-heard (TargetUnlocking t replaced at) s a h r = target-unlocked t h.0 replaced at h.1
  job-heard (OldDropping t old at) s a h r = h.0
  job-heard (OldClearing t old at) s a h r = tt
  job-heard (Releasing t hold rest reply at) s a h r = release-there t h.0 rest reply at h.2 h.3
  job-heard (Replying t reply at) s a h r = tt
