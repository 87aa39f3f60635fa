use Rattle.std.proofs.Common.{◌≡◌, take}
use Rattle.next_core.specs.Casts.{standings}
use Rattle.next_core.specs.Opening.{opening_cast}
use Rattle.next_core.proofs.begin.states_of.Given as goal

abbrev pub invariant-loop-list : goal.invariant-loop-list
invariant-loop-list l = standings l.states.items ≡ opening_cast l.tries l.counts l.stops (take l.list-index l.lists)
