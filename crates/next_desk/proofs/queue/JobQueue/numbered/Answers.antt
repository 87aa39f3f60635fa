use Rattle.std.proofs.Common.{◌≢◌, ◌∙◌, ap, arith}
use Rattle.next_rules.specs.Desks.{job_numbered}
use Rattle.next_desk.proofs.Queues.{numbered-get}
use Rattle.next_desk.proofs.queue.JobQueue.numbered.Goals as goal

pub returns : goal.returns
returns c =
    let some : c.args.job.0 ≢ 0 = omega arith in
    c.job_at.ensures ∙ numbered-get c.args.job.0 c.self.inside.jobs.items some ∙ ap (job_numbered c.args.job.0) c.self.view_is
