use Rattle.std.proofs.Common.{arith, ◌∙◌}
use Rattle.next_core.proofs.Ends.{first-of-left, rest-of-left}
use Rattle.next_core.proofs.finish.take_newest.Goals as goal

pub returns-clause-first : goal.returns-clause-first
returns-clause-first c = λ log le is place. first-of-left log c.args.left.now c.in_ok-newest.newest (omega arith) le (c.in_ok-newest.ensures ∙ is) place

pub returns-clause-rest : goal.returns-clause-rest
returns-clause-rest c = λ log le. rest-of-left log c.args.left.now _ (omega arith) le
