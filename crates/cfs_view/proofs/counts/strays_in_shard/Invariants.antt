use Rattle.std.proofs.Common.{◌≡◌, ◌+◌, ◌≤◌, length, map}
use Rattle.std.specs.FinMap.{entries}
use Rattle.cfs_ids.specs.declared.ids.Node.TheVariants.{Dir}
use Rattle.cfs_ids.specs.Maps.{how_many}
use Rattle.cfs_rules.specs.Trees.{is_left}
use Rattle.cfs_rules.specs.Several.{contents_in}
use Rattle.cfs_shard.specs.Shards as shards
use Rattle.cfs_view.specs.PlaceLists.{shard_items, roster_in}
use Rattle.cfs_view.specs.PlaceViews.{shard_view}
use Rattle.cfs_view.specs.Shown.{names_in}
use Rattle.cfs_view.proofs.counts.strays_in_shard.Given as goal

abbrev pub invariant-loop-dir : goal.invariant-loop-dir
invariant-loop-dir l = (l.count + how_many (λ e. is_left (roster_in l.places) (names_in (contents_in (map shard_view (shard_items l.places))) (Dir (record { 0 = e.0 }))) e.1.owner) l.dir-iterator ≡ how_many (λ e. is_left (roster_in l.places) (names_in (contents_in (map shard_view (shard_items l.places))) (Dir (record { 0 = e.0 }))) e.1.owner) (entries (shards.contents_of l.shard).recs)) × (l.count + length l.dir-iterator ≤ 1048577)
