-- Shards that have their own directories alone have the rows and the record of a directory in one of them.
use Rattle.std.proofs.Common.{◌≡◌, ℕ, suc, zero, ◌+◌, List, [], ◌∷◌, subst, arith}
use Rattle.std.specs.Prelude.{slice_get, Some}
use Rattle.next_rules.specs.Contents.{Shard}
use Rattle.next_rules.specs.Homes.{IsOwnShard, AreOwnShards, LieTogether}

own_of : (first : ℕ) (shards : List Shard) → AreOwnShards first shards → (i : ℕ) (s : Shard) → slice_get shards i ≡ Some s → IsOwnShard (i + first) s
own_of first [] h i s e = cc
own_of first (x ∷ xs) h zero s e = let same : x ≡ s = cc in let own = subst (IsOwnShard first) same h.0 in record { rows = λ k r there. let at = own.rows k r there in omega arith; recs = λ k r there. let at = own.recs k r there in omega arith; locks = λ k l there. let at = own.locks k l there in omega arith; debts = λ k b there. let at = own.debts k b there in omega arith }
own_of first (x ∷ xs) h (suc i) s e = let o = own_of (suc first) xs h.1 i s e in record { rows = λ k r there. let at = o.rows k r there in omega arith; recs = λ k r there. let at = o.recs k r there in omega arith; locks = λ k l there. let at = o.locks k l there in omega arith; debts = λ k b there. let at = o.debts k b there in omega arith }

pub own-together : (shards : List Shard) → AreOwnShards 0 shards → LieTogether shards
own-together shards h i j s t d name row r at at' row_there rec_there =
    let a = (own_of 0 shards h i s at).rows (d ∷ name) row row_there in
    let b = (own_of 0 shards h j t at').recs d r rec_there in
    omega arith
