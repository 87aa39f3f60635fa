-- What the state of the Renamer shows.
use Rattle.std.specs.Prelude.{ℕ, Bool, Option, Some, None, is_none}
use Rattle.next_steps.specs.JobPhases.{JobPhase}
use Rattle.next_steps.specs.Jobs.{heard_job}
use Rattle.next_renamer.specs.Renamers as renamers
use Rattle.next_actor.specs.declared.kept.KeptEntry.{KeptEntry}
use Rattle.next_actor.specs.declared.job_state.JobState.{JobState}

abbrev pub with_kept : Option KeptEntry → JobPhase → JobPhase
with_kept None phase = phase
with_kept (Some kept) phase = heard_job phase kept.place kept.entry

-- where it is in its job, the kept entry heard
abbrev pub phase_of : JobState → JobPhase
phase_of state = with_kept state.kept (renamers.phase_of state.renamer)

abbrev pub last_of : JobState → ℕ
last_of state = state.last

-- no entry is kept
abbrev pub is_settled : JobState → Bool
is_settled state = is_none state.kept
