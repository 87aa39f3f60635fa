use Rattle.std.proofs.Common.{◌≡◌, ◌+◌, ◌≤◌, length}
use Rattle.std.specs.Prelude.{is_some}
use Rattle.std.specs.FinMap.{entries}
use Rattle.cfs_ids.specs.Maps.{how_many}
use Rattle.cfs_shard.specs.Shards as shards
use Rattle.cfs_view.proofs.counts.owed_in_shard.Given as goal

abbrev pub invariant-loop-rec : goal.invariant-loop-rec
invariant-loop-rec l = (l.count + how_many (λ e. is_some e.1.owner) l.rec-iterator ≡ how_many (λ e. is_some e.1.owner) (entries (shards.contents_of l.shard).recs)) × (l.count + length l.rec-iterator ≤ 1048577)
