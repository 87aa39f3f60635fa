-- What the places of a service show.
use Rattle.std.specs.Prelude.{◌≡◌, ℕ, List, [], length, map, reverse, Option, Some, None}
use Rattle.cfs_steps.specs.declared.entry.Entry.{Entry}
use Rattle.cfs_rules.specs.Places.{Shard, Store}
use Rattle.cfs_rules.specs.Homes.{all_shards, all_stores}
use Rattle.cfs_rules.specs.Worlds.{Counts}
use Rattle.cfs_rules.specs.Several.{View, contents_in}
use Rattle.cfs_view.specs.Held.{Held}
use Rattle.cfs_view.specs.PlaceLists.{shard_items, store_items, roster_in, place_in, AreService}
use Rattle.cfs_view.specs.PlaceViews.{shard_view, store_view, log_of, last_of}
use Rattle.cfs_view.specs.declared.place.Place.{Place}
use Rattle.cfs_view.specs.declared.places.PlaceList.{PlaceList}
use Rattle.cfs_view.specs.declared.places.Places.{Places}

-- the last number and the log of a place, the newest entry first
abbrev pub last_shown : Option Place → ℕ
last_shown None = 0
last_shown (Some place) = last_of place

abbrev pub log_shown : Option Place → List Entry
log_shown None = []
log_shown (Some place) = reverse (log_of place)

abbrev pub lasts_in : List Place → ℕ → ℕ
lasts_in places number = last_shown (place_in places number)

abbrev pub logs_in : List Place → ℕ → List Entry
logs_in places number = log_shown (place_in places number)

abbrev pub held_in : List Place → Held
held_in places = record {
  shard = all_shards (contents_in (map shard_view (shard_items places)));
  store = all_stores (contents_in (map store_view (store_items places)));
  roster = roster_in places;
  lasts = lasts_in places;
  logs = logs_in places;
}

-- how many shards and stores there are
abbrev pub counts_in : List Place → Counts
counts_in places = record { shards = length (shard_items places); stores = length (store_items places) }

-- ---- the same of the places of a service
abbrev pub items_of : PlaceList → List Place
items_of list = list.places.items

abbrev pub places_of : Places → List Place
places_of places = places.places.items

abbrev pub shards_of : Places → List (View Shard)
shards_of places = map shard_view (shard_items (places_of places))

abbrev pub stores_of : Places → List (View Store)
stores_of places = map store_view (store_items (places_of places))

abbrev pub held : Places → Held
held places = held_in (places_of places)

abbrev pub counts_of : Places → Counts
counts_of places = counts_in (places_of places)

-- the places are all places of a service, and their shards are counted
pub record IsService (places : Places) : Type 0 where
  pub all : AreService (places_of places)
  pub counted : places.shards ≡ length (shard_items (places_of places))
