use Rattle.std.proofs.Common.{drop, ◌≡◌, map}
use Rattle.next_rules.specs.Several.{contents_in}
use Rattle.next_view.specs.Checks.{has_record, any_lacks}
use Rattle.next_places.specs.PlaceLists.{shard_items, store_items}
use Rattle.next_places.specs.PlaceViews.{shard_view, store_view}
use Rattle.next_view.proofs.checks.any_lacks.Given as goal

abbrev pub invariant-loop-place : goal.invariant-loop-place
invariant-loop-place l = any_lacks (has_record (contents_in (map shard_view (shard_items l.places))) (contents_in (map store_view (store_items l.places)))) (contents_in (map shard_view (shard_items l.places)))
    ≡ any_lacks (has_record (contents_in (map shard_view (shard_items l.places))) (contents_in (map store_view (store_items l.places)))) (contents_in (map shard_view (shard_items (drop l.place-index l.places))))
