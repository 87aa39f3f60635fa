use Rattle.std.proofs.Common.{sym, subst}
use Rattle.next_desk.specs.Queues.{AreTaken}
use Rattle.next_desk.proofs.Queues.{push-taken}
use Rattle.next_desk.proofs.queue.JobQueue.push.Goals as goal

pub invariant_of-self-2 : goal.invariant_of-self-2
invariant_of-self-2 c = subst (AreTaken c.self.inside.taken) (sym c.in_ok-push.ensures.items) (push-taken c.self.inside.taken c.self.inside.jobs.items c.args.job c.requires c.self.invariant)
