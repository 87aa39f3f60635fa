use Rattle.std.proofs.Common.{sym, arith}
use Rattle.next_walk.proofs.Hearing.{ends-otherwise}
use Rattle.next_walk.proofs.stage.Stage.hear.Goals as goal
use Rattle.next_walk.proofs.stage.Stage.hear.Goals.{in_default-reply-via-in-Busy+else-left-gt0, in_default-reply-via-in_default-reply}

pub returns-in_ok-copy-in_default-reply-clause-ok : goal.returns-in_ok-copy-in_default-reply-clause-ok
returns-in_ok-copy-in_default-reply-clause-ok c = elim c.in_default-reply.branch [
  | in_default-reply-via-in-Busy+else-left-gt0 w ↦ grind arith
  | in_default-reply-via-in_default-reply w ↦
      let ends = ends-otherwise c.args.more c.in-Makes.left c.in-Makes.call c.in-Makes.next c.args.reply.now w.in_default-reply.not-Node w.in_default-reply.not-Busy in
      rw (c.in_ok-copy-in_default-reply.ensures, c.in-Makes.is) (sym ends)
]
