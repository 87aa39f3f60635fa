use Rattle.std.proofs.Common.{◌≡◌, ◌+◌, ◌∙◌, ap, arith}
use Rattle.std.specs.Prelude.{Some}
use Rattle.std.specs.Option.{option_map}
use Rattle.next_rules.specs.Desks.{waiting_from}
use Rattle.next_desk.proofs.Queues.{waiting-at}
use Rattle.next_desk.proofs.queue.JobQueue.waiting.Goals as goal

pub returns-in-Some : goal.returns-in-Some
returns-in-Some c =
    let number : c.self.inside.taken + 1 ≡ 1 + c.self.inside.taken = omega arith in
    ap (λ n. Some (n, c.in-Some.job.now)) number ∙ ap (option_map (λ j. (1 + c.self.inside.taken, j))) c.in-Some.ensures
    ∙ waiting-at 1 c.self.inside.taken c.self.inside.jobs.items c.self.invariant ∙ ap (waiting_from 1) c.self.view_is

pub returns-in-None : goal.returns-in-None
returns-in-None c =
    ap (option_map (λ j. (1 + c.self.inside.taken, j))) c.in-None.ensures
    ∙ waiting-at 1 c.self.inside.taken c.self.inside.jobs.items c.self.invariant ∙ ap (waiting_from 1) c.self.view_is
