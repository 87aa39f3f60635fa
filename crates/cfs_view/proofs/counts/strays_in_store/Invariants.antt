use Rattle.std.proofs.Common.{◌≡◌, ◌+◌, ◌≤◌, length, map}
use Rattle.std.specs.FinMap.{entries}
use Rattle.cfs_ids.specs.declared.ids.Node.TheVariants.{File}
use Rattle.cfs_ids.specs.Maps.{how_many}
use Rattle.cfs_rules.specs.Trees.{is_left}
use Rattle.cfs_rules.specs.Several.{contents_in}
use Rattle.cfs_store.specs.Stores as stores
use Rattle.cfs_view.specs.PlaceLists.{shard_items, roster_in}
use Rattle.cfs_view.specs.PlaceViews.{shard_view}
use Rattle.cfs_view.specs.Shown.{names_in}
use Rattle.cfs_view.proofs.counts.strays_in_store.Given as goal

abbrev pub invariant-loop-file : goal.invariant-loop-file
invariant-loop-file l = (l.count + how_many (λ e. is_left (roster_in l.places) (names_in (contents_in (map shard_view (shard_items l.places))) (File (record { 0 = e.0 }))) e.1.owner) l.file-iterator ≡ how_many (λ e. is_left (roster_in l.places) (names_in (contents_in (map shard_view (shard_items l.places))) (File (record { 0 = e.0 }))) e.1.owner) (entries (stores.contents_of l.store))) × (l.count + length l.file-iterator ≤ 1048576)
