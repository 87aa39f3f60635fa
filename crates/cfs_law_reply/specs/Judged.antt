-- What the history of a run is.
use Rattle.std.specs.Prelude.{◌≡◌, ℕ, List, map, true}
use Rattle.cfs_ids.specs.Namespace.{IsWhole}
use Rattle.cfs_steps.specs.declared.line.HistoryItem.{HistoryItem}
use Rattle.cfs_rules.specs.Facts.{MovesMatch}
use Rattle.cfs_rules.specs.Histories.{lines_of, world_history}
use Rattle.cfs_rules.specs.Legal.{Each, IsLegal, final}
use Rattle.cfs_rules.specs.Trees.{tree}
use Rattle.cfs_rules.specs.Worlds.{World, calls_of, client_of}
use Rattle.cfs_laws_history.specs.EachLine.{HasEachLine}
use Rattle.cfs_laws_order.specs.OwnSteps.{HasOwnEnds, IsInALine, steps_at}

-- the items are the history of these clients in the world: a legal one, that ends in the tree of the places, which is
-- whole, has each move of the run in exactly one line, loses no call, begins and ends each line at steps of its client,
-- and has each step of a client's calls in a line of it
pub record IsJudged (members : List ℕ) (w : World) (items : List HistoryItem) : Type 0 where
  pub history : items ≡ world_history members w
  pub legal : IsLegal items
  pub last : final items ≡ tree w.shard w.store
  pub whole : IsWhole (final items)
  pub moves : MovesMatch w.run items
  pub calls : HasEachLine items (lines_of w.run (map (λ c. calls_of (client_of c) (w.clients c)) members))
  pub ends : Each (HasOwnEnds w.run) items
  pub steps : (c p : ℕ) → steps_at (client_of c) w.run p ≡ true → IsInALine items (client_of c) p
