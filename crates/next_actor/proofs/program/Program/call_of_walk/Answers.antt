use Rattle.std.proofs.Common.{sym}
use Rattle.next_walk.specs.Stages.{course_in}
use Rattle.next_actor.proofs.Told.{told-answered}
use Rattle.next_actor.specs.Replies.{told_from}
use Rattle.next_actor.proofs.program.Program.call_of_walk.Goals as goal

pub returns-clause-told : goal.returns-clause-told
returns-clause-told c = let self = c.args.self.now in rw (c.in-Some.is, c.in_ok-add.ensures.ok)
    (told-answered (course_in c.in-Some.walk) c.in-Some-reply.reply.now self.replies (told_from self.tries self.waiting) (sym c.in-Some-reply.ensures.reply))
