-- What a line of the desk's table gives.
use Rattle.std.specs.Prelude.{◌≡◌, ℕ, [], ◌∷◌, ◌++◌, false, Option, Some, None}
use Rattle.next_steps.specs.declared.contents.Job.{Job}
use Rattle.next_rules.specs.Contents.{Desk, Served}
use Rattle.next_rules.specs.Desks.{with_numbered, waiting_from, job_taken, job_answered}
use Rattle.next_desk.specs.declared.jobs.Change.{Change}
use Rattle.next_desk.specs.declared.jobs.Change.TheVariants.{Keep, Submit, Take, Answer}
use Rattle.next_desk.specs.declared.jobs.Line.{Line}

abbrev pub after : Desk → Change → Desk
after jobs Keep = jobs
after jobs (Submit job) = jobs ++ job ∷ []
after jobs (Take number) = with_numbered job_taken number.0 jobs
after jobs (Answer number reply at) = with_numbered (job_answered reply at) number.0 jobs

abbrev pub served_by : Desk → Line → Served Desk
served_by jobs line = record { answer = line.answer; contents = after jobs line.change; moved = None }

-- a job that is handed in was not taken, and the one that is taken is the one that waits
abbrev pub IsReady : Desk → Change → Type 0
IsReady jobs Keep = Unit {0}
IsReady jobs (Submit job) = job.taken ≡ false
IsReady jobs (Take number) = (job : Job) × (◌≡◌ {A = Option (ℕ × Job)} (waiting_from 1 jobs) (Some (number.0, job)))
IsReady jobs (Answer number reply at) = Unit {0}
