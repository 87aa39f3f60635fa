-- Lists of places, and which of them are all places of a service.
use Rattle.std.specs.Prelude.{◌≡◌, ℕ, suc, List, [], ◌∷◌, length, map, Bool, true, false, ◌==◌, Option, Some, None, if◌then◌else◌}
use Rattle.next_ids.specs.declared.counts.Counts.{Counts}
use Rattle.next_rules.specs.Contents.{Desk as DeskContents, Roster as RosterContents, opening_roster}
use Rattle.next_rules.specs.Setups.{AreCounts}
use Rattle.next_rules.specs.Several.{AreShards, AreStores}
use Rattle.next_shard.specs.declared.shard.Shard.{Shard}
use Rattle.next_store.specs.declared.store.Store.{Store}
use Rattle.next_desk.specs.Desks as desks
use Rattle.next_desk.specs.Rosters as rosters
use Rattle.next_places.specs.declared.place.Place.{Place}
use Rattle.next_places.specs.declared.place.Place.TheVariants as kind
use Rattle.next_places.specs.PlaceViews.{shard_view, store_view, number_of}

abbrev pub shard_items : List Place → List Shard
shard_items [] = []
shard_items (kind.Shard shard ∷ places) = shard ∷ shard_items places
shard_items (place ∷ places) = shard_items places

abbrev pub store_items : List Place → List Store
store_items [] = []
store_items (kind.Store store ∷ places) = store ∷ store_items places
store_items (place ∷ places) = store_items places

-- the jobs that the first desk has
abbrev pub desk_in : List Place → DeskContents
desk_in [] = []
desk_in (kind.Desk desk ∷ places) = desks.contents_of desk
desk_in (place ∷ places) = desk_in places

-- the clients that the first roster has
abbrev pub roster_in : List Place → RosterContents
roster_in [] = opening_roster
roster_in (kind.Roster roster ∷ places) = rosters.contents_of roster
roster_in (place ∷ places) = roster_in places

-- the first place with the number
abbrev pub place_in : List Place → ℕ → Option Place
place_in [] number = None
place_in (place ∷ places) number = if number_of place == number then Some place else place_in places number

-- the index of that place, and the length where there is none
abbrev pub index_in : List Place → ℕ → ℕ
index_in [] number = 0
index_in (place ∷ places) number = if number_of place == number then 0 else suc (index_in places number)

-- stores, then the desk and the roster
abbrev pub are_stores_first : List Place → Bool
are_stores_first (kind.Store store ∷ places) = are_stores_first places
are_stores_first (kind.Desk desk ∷ kind.Roster roster ∷ []) = true
are_stores_first places = false

-- shards, and then these
abbrev pub are_shards_first : List Place → Bool
are_shards_first (kind.Shard shard ∷ places) = are_shards_first places
are_shards_first places = are_stores_first places

-- how many shards and stores there are
abbrev pub counts_in : List Place → Counts
counts_in places = record { shards = length (shard_items places); stores = length (store_items places) }

-- all places of a service, by their numbers: 1 to 64 shards, 1 to 64 stores, the desk and the roster. Each shard and
-- each store has what is its own, and nothing else
pub record AreService (places : List Place) : Type 0 where
  pub in_order : are_shards_first places ≡ true
  pub counts : AreCounts (counts_in places)
  pub shards : AreShards (map shard_view (shard_items places))
  pub stores : AreStores (map store_view (store_items places))
