use Rattle.cfs_laws_order.proofs.Lines.{ends_own, steps_in_lines}
use Rattle.cfs_laws_order.proofs.each_step_is_in_its_line.Goals as goal

pub returns-clause-ends : goal.returns-clause-ends
returns-clause-ends c setup good turns members = ends_own setup good turns members

pub returns-clause-steps : goal.returns-clause-steps
returns-clause-steps c setup good turns members has = steps_in_lines setup good turns members has
