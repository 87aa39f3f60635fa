use Rattle.std.proofs.Common.{drop, ◌≡◌, ◌+◌, map}
use Rattle.next_rules.specs.Several.{contents_in}
use Rattle.next_view.specs.Checks.{is_row_of, rows_in}
use Rattle.next_places.specs.PlaceLists.{shard_items}
use Rattle.next_places.specs.PlaceViews.{shard_view}
use Rattle.next_view.proofs.checks.has_rows.Given as goal

abbrev pub invariant-loop-place : goal.invariant-loop-place
invariant-loop-place l =
    l.left + rows_in (is_row_of l.dir.0 l.dirs_only) (contents_in (map shard_view (shard_items l.places)))
    ≡ l.count + rows_in (is_row_of l.dir.0 l.dirs_only) (contents_in (map shard_view (shard_items (drop l.place-index l.places))))
