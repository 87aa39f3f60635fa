use Rattle.next_laws_order.proofs.Lines.{ends_own, steps_in_lines}
use Rattle.next_laws_order.proofs.each_step_is_in_its_line.Goals as goal

pub returns-clause-ends : goal.returns-clause-ends
returns-clause-ends c = ends_own

pub returns-clause-steps : goal.returns-clause-steps
returns-clause-steps c = steps_in_lines
