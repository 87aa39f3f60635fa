-- The law of many places, where the one with the index is known.
use Rattle.std.proofs.Common.{◌≡◌, ℕ, suc, zero, ◌<◌, List, [], ◌∷◌, length, get_or, subst, arith}
use Rattle.std.specs.Prelude.{slice_get, ◌+◌, Some}
use Rattle.next_ids.specs.declared.ids.Stamp.{Stamp}
use Rattle.next_steps.specs.declared.ask.Ask.{Ask}
use Rattle.next_steps.specs.Asks.{place_of}
use Rattle.next_rules.specs.Contents.{Shard, Store}
use Rattle.next_rules.specs.Homes.{AreOwnShards, AreOwnStores}
use Rattle.next_laws_several.specs.Several.{ShardServes, StoreServes}
use Rattle.next_laws_several.proofs.Whole.{shards_serve, stores_serve}

found : {X : Type 0} (xs : List X) (i : ℕ) (x : X) → slice_get xs i ≡ Some x → (i < length xs) × (get_or xs i x ≡ x)
found [] i x is = cc
found (y ∷ xs) zero x is = (omega arith, cc)
found (y ∷ xs) (suc i) x is = let f = found xs i x is in (omega (arith, f.0), f.1)

pub shards-law : (ss : List Shard) (i : ℕ) (s : Shard) (at : Stamp) (moment : ℕ) (x : Ask) → AreOwnShards 0 ss → slice_get ss i ≡ Some s → i < 64
    → at.place.0 ≡ i → (place_of x).0 ≡ i → ShardServes ss i s at moment x
shards-law ss i s at moment x h is low own home =
    let f = found ss i s is in subst (λ t. ShardServes ss i t at moment x) f.1 (shards_serve ss i s h f.0 at moment x own low home)

pub stores-law : (ss : List Store) (i : ℕ) (s : Store) (at : Stamp) (moment : ℕ) (x : Ask) → AreOwnStores 0 ss → slice_get ss i ≡ Some s → i < 64
    → at.place.0 ≡ 64 + i → (place_of x).0 ≡ 64 + i → StoreServes ss i s at moment x
stores-law ss i s at moment x h is low own home =
    let f = found ss i s is in subst (λ t. StoreServes ss i t at moment x) f.1 (stores_serve ss i s h f.0 at moment x own low home)
