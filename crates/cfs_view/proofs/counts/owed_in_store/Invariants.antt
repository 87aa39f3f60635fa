use Rattle.std.proofs.Common.{◌≡◌, ◌+◌, ◌≤◌, length}
use Rattle.std.specs.Prelude.{is_some}
use Rattle.std.specs.FinMap.{entries}
use Rattle.cfs_ids.specs.Maps.{how_many}
use Rattle.cfs_store.specs.Stores as stores
use Rattle.cfs_view.proofs.counts.owed_in_store.Given as goal

abbrev pub invariant-loop-rec : goal.invariant-loop-rec
invariant-loop-rec l = (l.count + how_many (λ e. is_some e.1.owner) l.rec-iterator ≡ how_many (λ e. is_some e.1.owner) (entries (stores.contents_of l.store))) × (l.count + length l.rec-iterator ≤ 1048576)
