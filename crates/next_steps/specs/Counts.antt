-- Where a client puts what it makes.
use Rattle.std.specs.Prelude.{ℕ, ◌+◌, ◌%◌}
use Rattle.next_ids.specs.declared.ids.Client.{Client}
use Rattle.next_ids.specs.declared.ids.PlaceNo.{PlaceNo}
use Rattle.next_ids.specs.declared.call.Call.{Call}
use Rattle.next_ids.specs.declared.call.Call.TheVariants.{Mkdir}
use Rattle.next_ids.specs.declared.counts.Counts.{Counts}
use Rattle.next_steps.specs.declared.ask.Ask.{Ask}
use Rattle.next_steps.specs.declared.ask.Ask.TheVariants.{Put, PutDir}

-- the places of the shard and of the store with the index
abbrev pub shard_place : ℕ → PlaceNo
shard_place index = record { 0 = index }

abbrev pub store_place : ℕ → PlaceNo
store_place index = record { 0 = 64 + index }

-- the shards of a mkdir, and else the stores
abbrev pub places_for : Counts → Call → ℕ
places_for counts (Mkdir dir name) = counts.shards
places_for counts call = counts.stores

-- a client's n-th put, counted over files and directories together, goes to the place (client + n) modulo their number
abbrev pub index_for : Counts → Client → (puts : ℕ) → Call → ℕ
index_for counts client puts call = (client.0 + puts) % places_for counts call

-- how many puts an ask makes
abbrev pub puts_in : Ask → ℕ
puts_in (Put client at home) = 1
puts_in (PutDir client at dir name) = 1
puts_in ask = 0
