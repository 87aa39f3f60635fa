use Rattle.next_places.proofs.Openings.{IsOpening, StartsShards, StartsStores}
use Rattle.next_places.proofs.opening.opening_places.Given as goal

abbrev pub invariant-loop-index : goal.invariant-loop-index
invariant-loop-index l = record {
  opening : IsOpening l.index 0 l.places.items;
  starts : StartsShards l.places.items;
}

abbrev pub invariant-loop-index-2 : goal.invariant-loop-index-2
invariant-loop-index-2 l = record {
  opening : IsOpening l.fn.counts.shards l.index l.places.items;
  starts : StartsStores l.places.items;
}
