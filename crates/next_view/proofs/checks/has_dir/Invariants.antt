use Rattle.std.proofs.Common.{drop, ◌≡◌, map}
use Rattle.next_rules.specs.Several.{contents_in}
use Rattle.next_view.specs.Checks.{any_has_dir}
use Rattle.next_places.specs.PlaceLists.{shard_items}
use Rattle.next_places.specs.PlaceViews.{shard_view}
use Rattle.next_view.proofs.checks.has_dir.Given as goal

abbrev pub invariant-loop-place : goal.invariant-loop-place
invariant-loop-place l = any_has_dir (contents_in (map shard_view (shard_items l.places))) l.dir.0 ≡ any_has_dir (contents_in (map shard_view (shard_items (drop l.place-index l.places)))) l.dir.0
