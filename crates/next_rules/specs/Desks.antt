-- The tables of the desk and of the roster. The desk may have nothing to tell yet, and then there is no step.
use Rattle.std.specs.Prelude.{ℕ, suc, zero, ◌+◌, List, [], ◌∷◌, ◌++◌, length, Bool, true, false, Option, Some, None}
use Rattle.next_ids.specs.declared.ids.DirId.{DirId}
use Rattle.next_ids.specs.declared.ids.Client.{Client}
use Rattle.next_ids.specs.declared.ids.At.{At}
use Rattle.next_ids.specs.declared.time.Ts.{Ts}
use Rattle.next_ids.specs.declared.call.Reply.{Reply}
use Rattle.next_steps.specs.declared.contents.Job.{Job}
use Rattle.next_steps.specs.declared.ask.Ask.{Ask}
use Rattle.next_steps.specs.declared.ask.Ask.TheVariants as ask
use Rattle.next_steps.specs.declared.answer.Answer.{Answer}
use Rattle.next_steps.specs.declared.answer.Answer.TheVariants as answer
use Rattle.next_steps.specs.ClientSets.{entered}
use Rattle.next_rules.specs.Contents.{Desk, Roster, Served, unmoved, changed}

-- ---- the list of jobs, the first of which has the number 1
abbrev pub nth_job : ℕ → Desk → Option Job
nth_job n [] = None
nth_job zero (j ∷ js) = Some j
nth_job (suc n) (j ∷ js) = nth_job n js

abbrev pub job_numbered : ℕ → Desk → Option Job
job_numbered zero jobs = None
job_numbered (suc n) jobs = nth_job n jobs

-- the list with the n-th job changed, counted from 0; a list without that job stays
abbrev pub with_nth : (Job → Job) → ℕ → Desk → Desk
with_nth change n [] = []
with_nth change zero (j ∷ js) = change j ∷ js
with_nth change (suc n) (j ∷ js) = j ∷ with_nth change n js

abbrev pub with_numbered : (Job → Job) → ℕ → Desk → Desk
with_numbered change zero jobs = jobs
with_numbered change (suc n) jobs = with_nth change n jobs

-- ---- Submit
abbrev pub submitted : Desk → Client → (dir : DirId) → (name : List ℕ) → (to_dir : DirId) → (to_name : List ℕ) → Ts
    → Served Desk
submitted jobs client dir name to_dir to_name ts =
    changed (answer.Submitted (record { 0 = length jobs + 1 }))
    (jobs ++ record {
      client = client;
      dir = dir;
      name = name;
      to_dir = to_dir;
      to_name = to_name;
      ts = ts;
      taken = false;
      answer = None;
    } ∷ [])

-- ---- TakeJob: the least job that wasn't taken
abbrev pub taken_first : Bool → ℕ → Option (ℕ × Job) → Job → Option (ℕ × Job)
taken_first true n later j = later
taken_first false n later j = Some (n, j)

abbrev pub waiting_from : ℕ → Desk → Option (ℕ × Job)
waiting_from n [] = None
waiting_from n (j ∷ js) = taken_first j.taken n (waiting_from (suc n) js) j

abbrev pub told_job : ℕ → Job → Answer
told_job number j = answer.Job (record { 0 = number }) j.client j.dir j.name j.to_dir j.to_name j.ts

abbrev pub job_taken : Job → Job
job_taken j = record j { taken = true }

abbrev pub took : Desk → Option (ℕ × Job) → Option (Served Desk)
took jobs None = None
took jobs (Some found) = Some (changed (told_job found.0 found.1) (with_numbered job_taken found.0 jobs))

-- ---- Reply
abbrev pub job_answered : Reply → At → Job → Job
job_answered reply at j = record j { answer = Some (reply, at) }

-- ---- Collect: the job's answer
abbrev pub answer_in : Option Job → Option (Reply × At)
answer_in None = None
answer_in (Some j) = j.answer

abbrev pub collected : Desk → Option (Reply × At) → Option (Served Desk)
collected jobs None = None
collected jobs (Some found) = Some (unmoved jobs (answer.Answered found.0 found.1))

-- the table of the desk; None is no step
abbrev pub serve_desk : Desk → Ask → Option (Served Desk)
serve_desk jobs (ask.Submit client dir name to_dir to_name ts) =
    Some (submitted jobs client dir name to_dir to_name ts)
serve_desk jobs ask.TakeJob = took jobs (waiting_from 1 jobs)
serve_desk jobs (ask.Reply job reply at) =
    Some (changed (answer.Done None) (with_numbered (job_answered reply at) job.0 jobs))
serve_desk jobs (ask.Collect job) = collected jobs (answer_in (job_numbered job.0 jobs))
serve_desk jobs a = Some (unmoved jobs answer.None)

-- the table of the roster
abbrev pub serve_roster : Roster → Ask → Served Roster
serve_roster r (ask.Stop client) = changed (answer.Done None) (record r { stopped = entered r.stopped client })
serve_roster r (ask.End client) = changed (answer.Done None) (record r { ended = entered r.ended client })
serve_roster r ask.Stopped = unmoved r (answer.Clients r.stopped)
serve_roster r a = unmoved r answer.None
