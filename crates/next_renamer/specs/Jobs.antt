-- A job on its way, as its phase.
use Rattle.std.specs.Prelude.{Option, Some, None}
use Rattle.next_steps.specs.JobPhases.{JobPhase, Waiting}
use Rattle.next_renamer.specs.declared.job.Job.{Job}
use Rattle.next_renamer.specs.Stages.{phase_at}
use Rattle.next_renamer.specs.Tasks.{task_of}

abbrev pub phase_in : Job → JobPhase
phase_in job = phase_at (task_of job.task) job.stage

-- without a job the Renamer waits
abbrev pub job_phase : Option Job → JobPhase
job_phase None = Waiting
job_phase (Some job) = phase_in job
