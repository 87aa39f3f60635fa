use Rattle.std.proofs.Common.{◌≡◌, map}
use Rattle.std.specs.Prelude.{not}
use Rattle.std.specs.List.{list_any}
use Rattle.std.specs.FinMap.{entries}
use Rattle.cfs_rules.specs.Several.{contents_in}
use Rattle.cfs_shard.specs.Shards as shards
use Rattle.cfs_view.specs.Checks.{counts_rows}
use Rattle.cfs_view.specs.PlaceLists.{shard_items}
use Rattle.cfs_view.specs.PlaceViews.{shard_view}
use Rattle.cfs_view.proofs.checks.shard_miscounts.Given as goal

abbrev pub invariant-loop-dir : goal.invariant-loop-dir
invariant-loop-dir l =
    list_any (λ e. not (counts_rows (contents_in (map shard_view (shard_items l.places))) e.0 e.1)) (entries (shards.contents_of l.shard).recs)
    ≡ list_any (λ e. not (counts_rows (contents_in (map shard_view (shard_items l.places))) e.0 e.1)) l.dir-iterator
