-- What the places of a service show.
use Rattle.std.specs.Prelude.{◌≡◌, ℕ, List, [], length, map, reverse, Option, Some, None}
use Rattle.next_ids.specs.declared.counts.Counts.{Counts}
use Rattle.next_steps.specs.declared.entry.Entry.{Entry}
use Rattle.next_rules.specs.Contents.{Shard, Store}
use Rattle.next_rules.specs.Homes.{all_shards, all_stores}
use Rattle.next_rules.specs.Several.{View, contents_in}
use Rattle.next_rules.specs.Worlds.{Service}
use Rattle.next_places.specs.Held.{Held}
use Rattle.next_places.specs.PlaceLists.{shard_items, store_items, desk_in, roster_in, place_in, counts_in, AreService}
use Rattle.next_places.specs.PlaceViews.{shard_view, store_view, log_of, last_of}
use Rattle.next_places.specs.declared.place.Place.{Place}
use Rattle.next_places.specs.declared.places.PlaceList.{PlaceList}
use Rattle.next_places.specs.declared.places.Places.{Places}

-- the last number and the log of a place, the newest entry first
abbrev pub last_shown : Option Place → ℕ
last_shown None = 0
last_shown (Some place) = last_of place

abbrev pub log_shown : Option Place → List Entry
log_shown None = []
log_shown (Some place) = reverse (log_of place)

abbrev pub lasts_in : List Place → ℕ → ℕ
lasts_in places number = last_shown (place_in places number)

abbrev pub logs_in : List Place → ℕ → List Entry
logs_in places number = log_shown (place_in places number)

-- what all places hold together
abbrev pub service_in : List Place → Service
service_in places = record {
  shard = all_shards (contents_in (map shard_view (shard_items places)));
  store = all_stores (contents_in (map store_view (store_items places)));
  desk = desk_in places;
  roster = roster_in places;
}

abbrev pub held_in : List Place → Held
held_in places = record {
  service = service_in places;
  lasts = lasts_in places;
  logs = logs_in places;
}

-- ---- the same of the places of a service
abbrev pub items_of : PlaceList → List Place
items_of list = list.places.items

abbrev pub places_of : Places → List Place
places_of places = places.places.items

abbrev pub shards_of : Places → List (View Shard)
shards_of places = map shard_view (shard_items (places_of places))

abbrev pub stores_of : Places → List (View Store)
stores_of places = map store_view (store_items (places_of places))

abbrev pub held : Places → Held
held places = held_in (places_of places)

abbrev pub counts_of : Places → Counts
counts_of places = counts_in (places_of places)

-- the places are all places of a service, and their shards are counted
pub record IsService (places : Places) : Type 0 where
  pub all : AreService (places_of places)
  pub counted : places.shards ≡ length (shard_items (places_of places))
