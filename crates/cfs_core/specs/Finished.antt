-- A run that is over, and the world that it ended in.
use Rattle.std.specs.Prelude.{◌≡◌, ℕ, List, map, reverse}
use Rattle.cfs_rules.specs.Members.{IsRising}
use Rattle.cfs_rules.specs.Worlds.{World, calls_of, client_of}
use Rattle.cfs_view.specs.Views.{held, IsService}
use Rattle.cfs_core.specs.declared.run.Run.{Run}

-- the run is that of the world, and the places and the calls of these clients are as it left them
pub record IsRunOf (members : List ℕ) (w : World) (run : Run) : Type 0 where
  pub entries : reverse run.entries ≡ w.run
  pub shard : (held run.places).shard ≡ w.shard
  pub store : (held run.places).store ≡ w.store
  pub service : IsService run.places
  pub roster : (held run.places).roster ≡ w.roster
  pub calls : IsRising members → run.calls.items ≡ map (λ c. calls_of (client_of c) (w.clients c)) members
