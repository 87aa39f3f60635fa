use Rattle.std.proofs.Common.{◌≡◌, length, map}
use Rattle.std.specs.Prelude.{not}
use Rattle.std.specs.List.{list_any}
use Rattle.std.specs.Option.{option_map}
use Rattle.std.specs.Ordering.{nat_cmp}
use Rattle.std.specs.Cmp.Lexicographic.{slice_cmp}
use Rattle.std.specs.FinMap.{entries}
use Rattle.next_ids.specs.Maps.{row_key}
use Rattle.next_maps.specs.Walks.{entries_after}
use Rattle.next_rules.specs.Several.{contents_in}
use Rattle.next_shard.specs.Shards as shards
use Rattle.next_view.specs.Checks.{has_record}
use Rattle.next_places.specs.PlaceLists.{shard_items, store_items}
use Rattle.next_places.specs.PlaceViews.{shard_view, store_view}
use Rattle.next_view.proofs.checks.shard_lacks.Given as goal

abbrev pub invariant-loop-here : goal.invariant-loop-here
invariant-loop-here l =
    list_any (λ e. not (has_record (contents_in (map shard_view (shard_items l.places))) (contents_in (map store_view (store_items l.places))) e.1.node)) (entries (shards.contents_of l.shard).rows)
    ≡ list_any (λ e. not (has_record (contents_in (map shard_view (shard_items l.places))) (contents_in (map store_view (store_items l.places))) e.1.node)) (entries_after (slice_cmp nat_cmp) (option_map (λ place. row_key place.0 place.1.now) l.at) (entries (shards.contents_of l.shard).rows))

abbrev pub decreases-loop-here : goal.decreases-loop-here
decreases-loop-here l = length (entries_after (slice_cmp nat_cmp) (option_map (λ place. row_key place.0 place.1.now) l.at) (entries (shards.contents_of l.shard).rows))
