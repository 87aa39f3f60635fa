use Rattle.next_actor.proofs.Told.{told-started, taken}
use Rattle.next_actor.proofs.program.Program.start_walk.Goals as goal

pub returns-clause-told : goal.returns-clause-told
returns-clause-told c = let self = c.args.self.now in
    told-started self.walk c.in_ok-walk.walk self.tries c.in-Some.command.now self.waiting c.take.new.self self.replies c.requires.free c.in_ok-walk.ensures.course
    (taken self.waiting c.take.new.self c.in-Some.command.now c.take.result c.in-Some.ensures c.take.ensures)
