use Rattle.next_places.specs.Views.{places_of}
use Rattle.next_core.proofs.Remaining.{AreCounted}
use Rattle.next_core.proofs.finish.counted.Given as goal

abbrev pub invariant-loop-number : goal.invariant-loop-number
invariant-loop-number l = AreCounted (places_of l.places) l.counts.items l.number
