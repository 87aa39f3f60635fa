-- The clients of a core, as the world sees them.
use Rattle.std.specs.Prelude.{◌≡◌, ℕ, List, [], ◌∷◌, map, reverse, ◌==◌, ◌&&◌, Bool, true, if◌then◌else◌}
use Rattle.std.specs.List.{list_all, list_any}
use Rattle.cfs_ids.specs.declared.ids.PlaceNo.{PlaceNo}
use Rattle.cfs_ids.specs.declared.ids.Actor.{Actor}
use Rattle.cfs_ids.specs.declared.ids.Actor.TheVariants.{Client}
use Rattle.cfs_rules.specs.Facts.{Unlocked}
use Rattle.cfs_rules.specs.Worlds.{World, Counts, AreCounts, Progress, Ends, starts}
use Rattle.cfs_view.specs.declared.places.Places.{Places}
use Rattle.cfs_view.specs.Views.{held, counts_of as places_of, IsService}
use Rattle.cfs_core.specs.Weave.{world_from}
use Rattle.cfs_core.specs.Counted.{IsCounted}
use Rattle.cfs_core.specs.Reach.{ProgressThere, RowsThere, places_there}
use Rattle.cfs_actor.specs.declared.client_state.ClientState.{ClientState}
use Rattle.cfs_actor.specs.Clients.{client_of, counts_of, progress_of}

-- the progress of each client; one without a state does nothing
abbrev pub progress_in : List ClientState → ℕ → Progress
progress_in [] c = starts Ends
progress_in (state ∷ states) c = if (client_of state).0 == c then progress_of state else progress_in states c

abbrev pub members_of : List ClientState → List ℕ
members_of states = map (λ (state : ClientState). (client_of state).0) states

-- whether the client has a state
abbrev pub is_member : List ClientState → ℕ → Bool
is_member states c = list_any (λ (state : ClientState). (client_of state).0 == c) states

abbrev pub number_in : Actor → ℕ
number_in (Client client) = client.0

-- the world of these places and clients, the places having been asked in this order, the oldest first
abbrev pub world_in : Places → List ClientState → List PlaceNo → World
world_in places states order = world_from (reverse order) (held places) (progress_in states)

-- the client works with this many shards and stores
abbrev pub works_with : Counts → ClientState → Bool
works_with counts state = ((counts_of state).shards == counts.shards) && ((counts_of state).stores == counts.stores)

-- the places are all of a service, the steps are counted, the clients know how many places there are, what they ask, what
-- was asked and what rows name is there, and no lock stands in their way
pub record IsSound (places : Places) (states : List ClientState) (order : List PlaceNo) : Type 0 where
  pub service : IsService places
  pub counted : IsCounted (reverse order) (held places) (progress_in states)
  pub sized : AreCounts (places_of places)
  pub alike : list_all (works_with (places_of places)) states ≡ true
  pub there : (c : ℕ) → ProgressThere (places_of places) (progress_in states c)
  pub asked : places_there (places_of places) order ≡ true
  pub named : RowsThere (places_of places) (held places).shard
  pub free : Unlocked (held places).shard
