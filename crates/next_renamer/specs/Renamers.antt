-- What the Renamer shows: where it is in its job.
use Rattle.next_steps.specs.JobPhases.{JobPhase}
use Rattle.next_renamer.specs.declared.renamer.RenamerState.{RenamerState}
use Rattle.next_renamer.specs.Jobs.{job_phase}

abbrev pub phase_of : RenamerState → JobPhase
phase_of state = job_phase state.job
