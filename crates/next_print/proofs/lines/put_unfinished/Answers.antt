use Rattle.next_print.specs.Lines.{unfinished_end}
use Rattle.next_print.proofs.lines.put_unfinished.Goals as goal

pub returns-in-None-clause-ok : goal.returns-in-None-clause-ok
unfolding unfinished_end
returns-in-None-clause-ok g c = rw c.in-None.is c.put.ensures.ok

pub returns-in-None-clause-front : goal.returns-in-None-clause-front
unfolding unfinished_end
returns-in-None-clause-front g c = rw c.in-None.is c.put.ensures.front

pub returns-in-Some-clause-ok : goal.returns-in-Some-clause-ok
unfolding unfinished_end
returns-in-Some-clause-ok g c = rw c.in-Some.is c.put_all.ensures.ok

pub returns-in-Some-clause-front : goal.returns-in-Some-clause-front
unfolding unfinished_end
returns-in-Some-clause-front g c = rw c.in-Some.is c.put_all.ensures.front
