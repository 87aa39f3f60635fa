-- Lists of turns.
use Rattle.std.specs.Prelude.{◌≡◌, ◌<◌, ℕ, List, Bool, ◌==◌, map, take, length, Some, slice_get}
use Rattle.std.specs.List.{list_any}
use Rattle.cfs_ids.specs.declared.ids.Actor.{Actor}
use Rattle.cfs_ids.specs.declared.ids.PlaceNo.{PlaceNo}
use Rattle.cfs_rules.specs.Worlds.{World, Counts, Setup, IsSetup, run_of, played}
use Rattle.cfs_core.specs.Clients.{number_in}
use Rattle.cfs_core.specs.Cores.{AsksFull, counts_of, world_of}
use Rattle.cfs_core.specs.declared.service.Core.{Core}

-- whether the turn is of one of these clients
abbrev pub is_turn_of : List ℕ → Actor → Bool
is_turn_of members actor = list_any (λ m. m == number_in actor) members

-- whether the turns in a row are of one of these clients
abbrev pub are_turns_of : List ℕ → Actor × ℕ → Bool
are_turns_of members listed = is_turn_of members listed.0

-- the second world comes of the first by the turns before one of them
pub record StopsIn (counts : Counts) (turns : List ℕ) (before after : World) : Type 0 where
  pub made : ℕ
  pub early : made < length turns
  pub so_far : after ≡ run_of counts (take made turns) before

-- the core comes of the world by the turns before one of them, whose client asks this place, where the log is full
pub record StopsFull (counts : Counts) (turns : List Actor) (before : World) (core : Core) (place : PlaceNo) : Type 0 where
  pub stops : StopsIn counts (map number_in turns) before (world_of core)
  pub actor : Actor
  pub next : Some actor ≡ slice_get turns stops.made
  pub full : AsksFull core (number_in actor) place

-- these turns have brought the core from the opening of a setup to where it is
pub record IsPlayed (setup : Setup) (turns : List ℕ) (core : Core) : Type 0 where
  pub good : IsSetup setup
  pub counts : setup.counts ≡ counts_of core
  pub world : world_of core ≡ played setup turns

-- the world of the core after the first n of these turns
abbrev pub world_at : Core → List Actor → ℕ → World
world_at core turns n = run_of (counts_of core) (take n (map number_in turns)) (world_of core)
