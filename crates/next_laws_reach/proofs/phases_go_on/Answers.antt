use Rattle.next_laws_reach.proofs.Turns.{phases_going}
use Rattle.next_laws_reach.proofs.phases_go_on.Goals as goal

pub returns : goal.returns
returns c = phases_going
