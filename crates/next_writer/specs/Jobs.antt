-- The job of a call.
use Rattle.std.specs.Prelude.{Option, Some, None}
use Rattle.next_ids.specs.declared.ids.JobNo.{JobNo}
use Rattle.next_steps.specs.Phases.{Phase, Writes, Collecting}

-- the one that the call has submitted and not collected
abbrev pub job_of : Phase → Option JobNo
job_of (Writes (Collecting dir name to_dir to_name job ts first)) = Some job
job_of phase = None
