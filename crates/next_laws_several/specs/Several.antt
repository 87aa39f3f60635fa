-- What one place gives, and what all places of its kind give as one.
use Rattle.std.specs.Prelude.{◌≡◌, ℕ, List, set}
use Rattle.next_ids.specs.declared.ids.Stamp.{Stamp}
use Rattle.next_steps.specs.declared.ask.Ask.{Ask}
use Rattle.next_rules.specs.Contents.{Shard, Store, Served}
use Rattle.next_rules.specs.Places.{serve_shard}
use Rattle.next_rules.specs.Stores.{serve_store}
use Rattle.next_rules.specs.Homes.{AreOwnShards, AreOwnStores, all_shards, all_stores}

-- the same answer and the same change of the namespace; and what all have then is what the places have together
pub record ServesAsAll {C : Type 0} (one all : Served C) (together : C) : Type 0 where
  pub answer : all.answer ≡ one.answer
  pub moved : all.moved ≡ one.moved
  pub contents : all.contents ≡ together

-- the shard with the index serves as all do, and each shard then has what is its own
abbrev pub ShardServes : List Shard → (i : ℕ) → Shard → (at : Stamp) → (moment : ℕ) → Ask → Type 0
ShardServes shards i s at moment ask =
    ServesAsAll (serve_shard s at moment ask) (serve_shard (all_shards shards) at moment ask)
    (all_shards (set shards i (serve_shard s at moment ask).contents))
    × AreOwnShards 0 (set shards i (serve_shard s at moment ask).contents)

-- and so does the store
abbrev pub StoreServes : List Store → (i : ℕ) → Store → (at : Stamp) → (moment : ℕ) → Ask → Type 0
StoreServes stores i s at moment ask =
    ServesAsAll (serve_store s at moment ask) (serve_store (all_stores stores) at moment ask)
    (all_stores (set stores i (serve_store s at moment ask).contents))
    × AreOwnStores 0 (set stores i (serve_store s at moment ask).contents)
