use Rattle.std.proofs.Common.{◌≡◌, map}
use Rattle.std.specs.Prelude.{not}
use Rattle.std.specs.List.{list_any}
use Rattle.std.specs.FinMap.{entries}
use Rattle.next_rules.specs.Several.{contents_in}
use Rattle.next_shard.specs.Shards as shards
use Rattle.next_view.specs.Checks.{counts_rows}
use Rattle.next_view.proofs.Folding.{MayFold}
use Rattle.next_places.specs.PlaceLists.{shard_items}
use Rattle.next_places.specs.PlaceViews.{shard_view}
use Rattle.next_view.proofs.checks.shard_miscounts.Given as goal

abbrev pub invariant-loop-dir : goal.invariant-loop-dir
invariant-loop-dir l =
    (list_any (λ e. not (counts_rows (contents_in (map shard_view (shard_items l.places))) e.0 e.1)) (entries (shards.contents_of l.shard).recs)
    ≡ list_any (λ e. not (counts_rows (contents_in (map shard_view (shard_items l.places))) e.0 e.1)) l.dir-iterator) × MayFold l.dir-iterator
