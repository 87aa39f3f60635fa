use Rattle.std.proofs.Common.{◌≡◌, length}
use Rattle.next_actor.specs.Programs.{plan_in, told_in}
use Rattle.next_actor.proofs.program.Program.next_call.Given as goal

abbrev pub invariant-loop-call : goal.invariant-loop-call
invariant-loop-call l = (plan_in l.self ≡ plan_in l.fn.self) × (told_in l.self ≡ told_in l.fn.self)

abbrev pub decreases-loop-call : goal.decreases-loop-call
decreases-loop-call l = length l.self.waiting
