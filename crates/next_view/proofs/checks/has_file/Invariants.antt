use Rattle.std.proofs.Common.{drop, ◌≡◌, map}
use Rattle.next_rules.specs.Several.{contents_in}
use Rattle.next_view.specs.Checks.{any_has_file}
use Rattle.next_places.specs.PlaceLists.{store_items}
use Rattle.next_places.specs.PlaceViews.{store_view}
use Rattle.next_view.proofs.checks.has_file.Given as goal

abbrev pub invariant-loop-place : goal.invariant-loop-place
invariant-loop-place l = any_has_file (contents_in (map store_view (store_items l.places))) l.file.0 ≡ any_has_file (contents_in (map store_view (store_items (drop l.place-index l.places)))) l.file.0
