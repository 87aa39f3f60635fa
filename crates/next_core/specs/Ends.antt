-- What is left of the logs at the end of a run.
use Rattle.std.specs.Prelude.{◌≡◌, ℕ, ◌≤◌, List, [], ◌∷◌, length, reverse, take, slice_index_or, Option, Some, None}
use Rattle.next_ids.specs.declared.ids.PlaceNo.{PlaceNo}
use Rattle.next_steps.specs.declared.entry.Entry.{Entry}
use Rattle.next_places.specs.declared.places.Places.{Places}
use Rattle.next_places.specs.declared.place.Place.{Place}
use Rattle.next_places.specs.PlaceLists.{place_in}
use Rattle.next_places.specs.PlaceViews.{log_of}
use Rattle.next_places.specs.Views.{places_of}
use Rattle.next_core.specs.declared.left.Left.{Left}

-- how many entries a place's log has
abbrev pub count_shown : Option Place → ℕ
count_shown None = 0
count_shown (Some place) = length (log_of place)

-- the first entries of a place's log, the newest first
abbrev pub first_shown : ℕ → Option Place → List Entry
first_shown count None = []
first_shown count (Some place) = reverse (take count (log_of place))

-- the entries that are left of the logs, the newest first
abbrev pub logs_left : Left → Places → ℕ → List Entry
logs_left left places number = first_shown (slice_index_or left.counts.items number 0) (place_in (places_of places) number)

-- there is a count for each place number, and no log is shorter
pub record IsWithin (left : Left) (places : Places) : Type 0 where
  pub size : length left.counts.items ≡ 130
  pub few : (number : ℕ) → slice_index_or left.counts.items number 0 ≤ count_shown (place_in (places_of places) number)

abbrev pub placed : PlaceNo → Option Entry → List (PlaceNo × Entry)
placed place None = []
placed place (Some entry) = (place, entry) ∷ []
