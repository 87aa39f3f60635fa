-- A job as it was taken.
use Rattle.next_steps.specs.JobPhases as phase
use Rattle.next_renamer.specs.declared.task.Task.{Task}

abbrev pub task_of : Task → phase.Task
task_of t = record {
  job = t.job;
  client = t.client;
  dir = t.dir;
  name = t.name;
  to_dir = t.to_dir;
  to_name = t.to_name;
  ts = t.ts;
}
