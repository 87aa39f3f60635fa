-- The end of a run.
use Rattle.std.specs.Prelude.{◌≡◌, ℕ, ◌≤◌, List, [], ◌∷◌, length, map, reverse, take, slice_index_or, Option, Some, None}
use Rattle.cfs_ids.specs.declared.ids.PlaceNo.{PlaceNo}
use Rattle.cfs_steps.specs.declared.entry.Entry.{Entry}
use Rattle.cfs_steps.specs.declared.call_done.ClientCalls.{ClientCalls}
use Rattle.cfs_rules.specs.Worlds.{calls_of}
use Rattle.cfs_actor.specs.declared.client_state.ClientState.{ClientState}
use Rattle.cfs_actor.specs.Clients.{client_of, progress_of}
use Rattle.cfs_view.specs.declared.places.Places.{Places}
use Rattle.cfs_view.specs.declared.place.Place.{Place}
use Rattle.cfs_view.specs.PlaceLists.{place_in}
use Rattle.cfs_view.specs.PlaceViews.{log_of}
use Rattle.cfs_view.specs.Views.{places_of}
use Rattle.cfs_core.specs.declared.left.Left.{Left}

-- how many entries a place's log has
abbrev pub count_shown : Option Place → ℕ
count_shown None = 0
count_shown (Some place) = length (log_of place)

-- the first entries of a place's log, the newest first
abbrev pub first_shown : ℕ → Option Place → List Entry
first_shown count None = []
first_shown count (Some place) = reverse (take count (log_of place))

-- the entries that are left of the logs, the newest first
abbrev pub logs_left : Left → Places → ℕ → List Entry
logs_left left places number = first_shown (slice_index_or left.counts.items number 0) (place_in (places_of places) number)

-- there is a count for each place number, and no log is shorter
pub record IsWithin (left : Left) (places : Places) : Type 0 where
  pub size : length left.counts.items ≡ 130
  pub few : (number : ℕ) → slice_index_or left.counts.items number 0 ≤ count_shown (place_in (places_of places) number)

abbrev pub placed : PlaceNo → Option Entry → List (PlaceNo × Entry)
placed place None = []
placed place (Some entry) = (place, entry) ∷ []

-- the calls of the clients of these states
abbrev pub calls_of_states : List ClientState → List ClientCalls
calls_of_states states = map (λ (state : ClientState). calls_of (client_of state) (progress_of state)) states
