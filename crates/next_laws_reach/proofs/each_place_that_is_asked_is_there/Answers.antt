use Rattle.next_laws_reach.proofs.Turns.{places_there}
use Rattle.next_laws_reach.proofs.each_place_that_is_asked_is_there.Goals as goal

pub returns : goal.returns
returns c = places_there
