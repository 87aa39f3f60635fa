-- What a place shows.
use Rattle.std.specs.Prelude.{ℕ, ◌+◌, List}
use Rattle.next_steps.specs.declared.entry.Entry.{Entry}
use Rattle.next_rules.specs.Contents.{Shard as ShardContents, Store as StoreContents}
use Rattle.next_rules.specs.Several.{View}
use Rattle.next_shard.specs.declared.shard.Shard.{Shard}
use Rattle.next_shard.specs.Shards as shards
use Rattle.next_store.specs.declared.store.Store.{Store}
use Rattle.next_store.specs.Stores as stores
use Rattle.next_desk.specs.Desks as desks
use Rattle.next_desk.specs.Rosters as rosters
use Rattle.next_places.specs.declared.place.Place.{Place}
use Rattle.next_places.specs.declared.place.Place.TheVariants as kind

abbrev pub shard_view : Shard → View ShardContents
shard_view shard = record { contents = shards.contents_of shard; log = shards.log_of shard; last = shards.last_of shard; index = shards.index_of shard }

abbrev pub store_view : Store → View StoreContents
store_view store = record { contents = stores.contents_of store; log = stores.log_of store; last = stores.last_of store; index = stores.index_of store }

-- shard i is place i, store j is place 64 + j, the desk is place 128, and the roster place 129
abbrev pub number_of : Place → ℕ
number_of (kind.Shard shard) = shards.index_of shard
number_of (kind.Store store) = 64 + stores.index_of store
number_of (kind.Desk desk) = 128
number_of (kind.Roster roster) = 129

abbrev pub log_of : Place → List Entry
log_of (kind.Shard shard) = shards.log_of shard
log_of (kind.Store store) = stores.log_of store
log_of (kind.Desk desk) = desks.log_of desk
log_of (kind.Roster roster) = rosters.log_of roster

abbrev pub last_of : Place → ℕ
last_of (kind.Shard shard) = shards.last_of shard
last_of (kind.Store store) = stores.last_of store
last_of (kind.Desk desk) = desks.last_of desk
last_of (kind.Roster roster) = rosters.last_of roster
