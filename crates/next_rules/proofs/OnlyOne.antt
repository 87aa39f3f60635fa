-- What is known of the shards and the stores has one proof at most, so it may be kept with them.
use Rattle.std.proofs.Common.{ℕ, suc, List, [], ◌∷◌}
use Rattle.std.proofs.Props.{props}
use Rattle.next_rules.specs.Contents.{Shard, Store}
use Rattle.next_rules.specs.Homes.{AreOwnShards, AreOwnStores}
use Rattle.next_rules.specs.Several.{View, AreNumbered}

pub AreNumbered-prop : {C : Type 0} (first : ℕ) (vs : List (View C)) → IsProp (AreNumbered first vs)
AreNumbered-prop first [] = hlevel props
AreNumbered-prop first (v ∷ vs) = hlevel (props, AreNumbered-prop (suc first) vs)

pub AreOwnShards-prop : (first : ℕ) (ss : List Shard) → IsProp (AreOwnShards first ss)
AreOwnShards-prop first [] = hlevel props
AreOwnShards-prop first (s ∷ ss) = hlevel (props, AreOwnShards-prop (suc first) ss)

pub AreOwnStores-prop : (first : ℕ) (ss : List Store) → IsProp (AreOwnStores first ss)
AreOwnStores-prop first [] = hlevel props
AreOwnStores-prop first (s ∷ ss) = hlevel (props, AreOwnStores-prop (suc first) ss)
