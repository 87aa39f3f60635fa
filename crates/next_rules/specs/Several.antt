-- Several places of a kind in the order of their numbers, and what they show.
use Rattle.std.specs.Prelude.{◌≡◌, ℕ, suc, zero, ◌≤◌, List, [], ◌∷◌, length, map, reverse}
use Rattle.next_steps.specs.declared.entry.Entry.{Entry}
use Rattle.next_rules.specs.Contents.{Shard, Store}
use Rattle.next_rules.specs.Homes.{AreOwnShards, AreOwnStores}

-- what one place shows
pub record View (Contents : Type 0) : Type 0 where
  pub contents : Contents
  pub log : List Entry
  pub last : ℕ
  pub index : ℕ

module _ {C : Type 0} where
  abbrev pub contents_in : List (View C) → List C
  contents_in views = map (λ (v : View C). v.contents) views

  -- the last number and the log of the place with the index, the newest entry first
  abbrev pub last_at : List (View C) → ℕ → ℕ
  last_at [] i = 0
  last_at (v ∷ vs) zero = v.last
  last_at (v ∷ vs) (suc i) = last_at vs i

  abbrev pub log_at : List (View C) → ℕ → List Entry
  log_at [] i = []
  log_at (v ∷ vs) zero = reverse v.log
  log_at (v ∷ vs) (suc i) = log_at vs i

  -- the indices count up from this
  abbrev pub AreNumbered : ℕ → List (View C) → Type 0
  AreNumbered first [] = Unit {0}
  AreNumbered first (v ∷ vs) = (v.index ≡ first) × AreNumbered (suc first) vs

-- up to 64 shards, each with its number, and each with what is its own
pub record AreShards (views : List (View Shard)) : Type 0 where
  pub few : length views ≤ 64
  pub numbered : AreNumbered 0 views
  pub own : AreOwnShards 0 (contents_in views)

pub record AreStores (views : List (View Store)) : Type 0 where
  pub few : length views ≤ 64
  pub numbered : AreNumbered 0 views
  pub own : AreOwnStores 0 (contents_in views)
