-- Where a job is, as its phase.
use Rattle.std.specs.Prelude.{Option, Some, None}
use Rattle.next_ids.specs.declared.call.Reply.TheVariants.{Refused}
use Rattle.next_steps.specs.JobPhases as phase
use Rattle.next_steps.specs.JobPhases.{JobPhase}
use Rattle.next_renamer.specs.declared.stage.Stage.{Stage}
use Rattle.next_renamer.specs.declared.stage.Stage.TheVariants.{SourceReading, SourceSettling, FileLocking, RecLocking, RecHelping, DirLocking, TargetLocking, TargetHelping, OldLocking, OldHelping, OldRowLocking, Climbing, Committing, SourceCutting, Rebasing, TargetUnlocking, OldDropping, OldClearing, Releasing, Replying}
use Rattle.next_renamer.specs.Holds.{hold_of, holds_of}

abbrev pub phase_at : phase.Task → Stage → JobPhase
phase_at t SourceReading = phase.SourceReading t
phase_at t (SourceSettling file) = phase.SourceSettling t file
phase_at t (FileLocking file) = phase.FileLocking t file
phase_at t (RecLocking source) = phase.RecLocking t source
phase_at t (RecHelping note) = phase.RecHelping t note
phase_at t (DirLocking source) = phase.DirLocking t source
phase_at t (TargetLocking node) = phase.TargetLocking t node
phase_at t (TargetHelping node note) = phase.TargetHelping t node note
phase_at t (OldLocking source old) = phase.OldLocking t source old
phase_at t (OldHelping source note) = phase.OldHelping t source note
phase_at t (OldRowLocking source old) = phase.OldRowLocking t source old
phase_at t (Climbing source old chain) = phase.Climbing t source old chain
phase_at t (Committing node) = phase.Committing t node
phase_at t (SourceCutting node replaced at) = phase.SourceCutting t node replaced at
phase_at t (Rebasing source replaced at) = phase.Rebasing t source replaced at
phase_at t (TargetUnlocking replaced at) = phase.TargetUnlocking t replaced at
phase_at t (OldDropping old at) = phase.OldDropping t old at
phase_at t (OldClearing old at) = phase.OldClearing t old at
phase_at t (Releasing hold rest errno at) = phase.Releasing t (hold_of hold) (holds_of rest) (Refused errno) at
phase_at t (Replying reply at) = phase.Replying t reply at

-- where no stage follows, the job is over
abbrev pub phase_after : phase.Task → Option Stage → JobPhase
phase_after t None = phase.Waiting
phase_after t (Some stage) = phase_at t stage
