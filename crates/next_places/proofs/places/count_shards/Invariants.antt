use Rattle.std.proofs.Common.{drop, ◌≡◌, ◌+◌, ◌≤◌, length}
use Rattle.next_places.specs.PlaceLists.{shard_items}
use Rattle.next_places.proofs.places.count_shards.Given as goal

abbrev pub invariant-loop-place : goal.invariant-loop-place
invariant-loop-place l = (l.count + length (shard_items (drop l.place-index l.places)) ≡ length (shard_items l.places)) × (l.count + length (drop l.place-index l.places) ≤ length l.places)
