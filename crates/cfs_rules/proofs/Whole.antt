-- All shards together after one of them has served an ask, and all stores.
use Rattle.std.proofs.Common.{◌≡◌, ℕ, suc, zero, ◌+◌, ◌<◌, List, [], ◌∷◌, map, length, set, get_or, refl, sym, ◌∙◌, ap, arith}
use Rattle.std.proofs.lemmas.List.{map-set, length-map}
use Rattle.std.specs.Cmp.{nat_cmp_total}
use Rattle.std.specs.Cmp.Lexicographic.{nat_list_cmp_total}
use Rattle.std.specs.declared.cmp.Ordering.{Ordering}
use Rattle.std.specs.FinMap.{FinMap, get, nat_cmp-IsAntisymmetric}
use Rattle.cfs_rules.specs.Places.{Shard, Store, Served}
use Rattle.cfs_rules.specs.Homes.{home_of_row, home_of_number, gathered, LieFrom, all_shards, all_stores, IsOwnShard, IsOwnStore, AreOwnShards, AreOwnStores}
use Rattle.cfs_rules.proofs.Names.{bytes_apart}
use Rattle.cfs_rules.proofs.Homes.{get_in, get-gathered, gathered-set}
use Rattle.cfs_rules.proofs.Gathering.{Agrees, AgreesShard, ServesShard, ServesStore}

get_in-map : {A K X : Type 0} {R : K → K → Ordering} (f : A → FinMap R X) (xs : List A) (i : ℕ) (d : A) (k : K) → i < length xs → get_in (map f xs) i k ≡ get (f (get_or xs i d)) k
get_in-map f [] i d k lt = absurd (omega arith)
get_in-map f (x ∷ xs) zero d k lt = refl
get_in-map f (x ∷ xs) (suc i) d k lt = get_in-map f xs i d k (omega arith)

-- ---- shards
pub own_rows : (first : ℕ) (ss : List Shard) → AreOwnShards first ss → LieFrom home_of_row first (map (λ (s : Shard). s.rows) ss)
own_rows first [] h = tt
own_rows first (s ∷ ss) h = (h.0.rows, own_rows (suc first) ss h.1)

pub own_recs : (first : ℕ) (ss : List Shard) → AreOwnShards first ss → LieFrom home_of_number first (map (λ (s : Shard). s.recs) ss)
own_recs first [] h = tt
own_recs first (s ∷ ss) h = (h.0.recs, own_recs (suc first) ss h.1)

pub own_locks : (first : ℕ) (ss : List Shard) → AreOwnShards first ss → LieFrom home_of_row first (map (λ (s : Shard). s.locks) ss)
own_locks first [] h = tt
own_locks first (s ∷ ss) h = (h.0.locks, own_locks (suc first) ss h.1)

own_at : (first : ℕ) (ss : List Shard) (i : ℕ) (d : Shard) → AreOwnShards first ss → i < length ss → IsOwnShard (i + first) (get_or ss i d)
own_at first [] i d h lt = absurd (omega arith)
own_at first (s ∷ ss) zero d h lt = record { rows = λ k x e. let at = h.0.rows k x e in omega arith; recs = λ k x e. let at = h.0.recs k x e in omega arith; locks = λ k x e. let at = h.0.locks k x e in omega arith }
own_at first (s ∷ ss) (suc i) d h lt = let o = own_at (suc first) ss i d h.1 (omega arith) in record { rows = λ k x e. let at = o.rows k x e in omega arith; recs = λ k x e. let at = o.recs k x e in omega arith; locks = λ k x e. let at = o.locks k x e in omega arith }

pub AreOwnShards-set : (first : ℕ) (ss : List Shard) (i : ℕ) (s : Shard) → AreOwnShards first ss → IsOwnShard (i + first) s → AreOwnShards first (set ss i s)
AreOwnShards-set first [] i s h own = tt
AreOwnShards-set first (x ∷ ss) zero s h own = (record { rows = λ k y e. let at = own.rows k y e in omega arith; recs = λ k y e. let at = own.recs k y e in omega arith; locks = λ k y e. let at = own.locks k y e in omega arith }, h.1)
AreOwnShards-set first (x ∷ ss) (suc i) s h own = (h.0, AreOwnShards-set (suc first) ss i s h.1 (record { rows = λ k y e. let at = own.rows k y e in omega arith; recs = λ k y e. let at = own.recs k y e in omega arith; locks = λ k y e. let at = own.locks k y e in omega arith }))

-- a shard has at its own keys what all have
pub shard_agrees : (ss : List Shard) (i : ℕ) (s : Shard) → AreOwnShards 0 ss → i < length ss → s ≡ get_or ss i s → AgreesShard i s (all_shards ss)
shard_agrees ss i s h lt is =
    let own = own_at 0 ss i s h lt in
    record {
      rows = record {
        own = λ k x e. let at = own.rows k x (ap (λ (t : Shard). get t.rows k) (sym is) ∙ e) in omega arith;
        here = λ k at. get-gathered nat_list_cmp_total bytes_apart home_of_row (map (λ (s : Shard). s.rows) ss) k (own_rows 0 ss h) ∙ ap (λ n. get_in (map (λ (s : Shard). s.rows) ss) n k) at
            ∙ get_in-map (λ (s : Shard). s.rows) ss i s k lt ∙ ap (λ (t : Shard). get t.rows k) (sym is);
      };
      recs = record {
        own = λ k x e. let at = own.recs k x (ap (λ (t : Shard). get t.recs k) (sym is) ∙ e) in omega arith;
        here = λ k at. get-gathered nat_cmp_total nat_cmp-IsAntisymmetric home_of_number (map (λ (s : Shard). s.recs) ss) k (own_recs 0 ss h) ∙ ap (λ n. get_in (map (λ (s : Shard). s.recs) ss) n k) at
            ∙ get_in-map (λ (s : Shard). s.recs) ss i s k lt ∙ ap (λ (t : Shard). get t.recs k) (sym is);
      };
      locks = record {
        own = λ k x e. let at = own.locks k x (ap (λ (t : Shard). get t.locks k) (sym is) ∙ e) in omega arith;
        here = λ k at. get-gathered nat_list_cmp_total bytes_apart home_of_row (map (λ (s : Shard). s.locks) ss) k (own_locks 0 ss h) ∙ ap (λ n. get_in (map (λ (s : Shard). s.locks) ss) n k) at
            ∙ get_in-map (λ (s : Shard). s.locks) ss i s k lt ∙ ap (λ (t : Shard). get t.locks k) (sym is);
      };
    }

pub shards_after : (ss : List Shard) (i : ℕ) (own all : Served Shard) → AreOwnShards 0 ss → i < length ss → ServesShard i (all_shards ss) own all → all_shards (set ss i own.contents) ≡ all.contents
shards_after ss i own all h lt s = λ j. record { rows = rows j; recs = recs j; locks = locks j }
  where
    rows : (all_shards (set ss i own.contents)).rows ≡ all.contents.rows
    rows = ap gathered (map-set (λ (s : Shard). s.rows) ss i own.contents)
        ∙ gathered-set nat_list_cmp_total bytes_apart home_of_row (map (λ (s : Shard). s.rows) ss) i own.contents.rows all.contents.rows (let same = length-map ss (λ (s : Shard). s.rows) in omega arith) (own_rows 0 ss h) s.rows.own s.rows.here s.rows.there

    recs : (all_shards (set ss i own.contents)).recs ≡ all.contents.recs
    recs = ap gathered (map-set (λ (s : Shard). s.recs) ss i own.contents)
        ∙ gathered-set nat_cmp_total nat_cmp-IsAntisymmetric home_of_number (map (λ (s : Shard). s.recs) ss) i own.contents.recs all.contents.recs (let same = length-map ss (λ (s : Shard). s.recs) in omega arith) (own_recs 0 ss h) s.recs.own s.recs.here s.recs.there

    locks : (all_shards (set ss i own.contents)).locks ≡ all.contents.locks
    locks = ap gathered (map-set (λ (s : Shard). s.locks) ss i own.contents)
        ∙ gathered-set nat_list_cmp_total bytes_apart home_of_row (map (λ (s : Shard). s.locks) ss) i own.contents.locks all.contents.locks (let same = length-map ss (λ (s : Shard). s.locks) in omega arith) (own_locks 0 ss h) s.locks.own s.locks.here s.locks.there

-- ---- stores
pub own_files : (first : ℕ) (ss : List Store) → AreOwnStores first ss → LieFrom home_of_number first ss
own_files first [] h = tt
own_files first (s ∷ ss) h = (h.0, own_files (suc first) ss h.1)

pub AreOwnStores-set : (first : ℕ) (ss : List Store) (i : ℕ) (s : Store) → AreOwnStores first ss → IsOwnStore (i + first) s → AreOwnStores first (set ss i s)
AreOwnStores-set first [] i s h own = tt
AreOwnStores-set first (x ∷ ss) zero s h own = ((λ k y e. let at = own k y e in omega arith), h.1)
AreOwnStores-set first (x ∷ ss) (suc i) s h own = (h.0, AreOwnStores-set (suc first) ss i s h.1 (λ k y e. let at = own k y e in omega arith))

own_store_at : (first : ℕ) (ss : List Store) (i : ℕ) (d : Store) → AreOwnStores first ss → i < length ss → IsOwnStore (i + first) (get_or ss i d)
own_store_at first [] i d h lt = absurd (omega arith)
own_store_at first (s ∷ ss) zero d h lt = λ k x e. let at = h.0 k x e in omega arith
own_store_at first (s ∷ ss) (suc i) d h lt = let o = own_store_at (suc first) ss i d h.1 (omega arith) in λ k x e. let at = o k x e in omega arith

get_in-at : (ss : List Store) (i : ℕ) (d : Store) (k : ℕ) → i < length ss → get_in ss i k ≡ get (get_or ss i d) k
get_in-at [] i d k lt = absurd (omega arith)
get_in-at (x ∷ ss) zero d k lt = refl
get_in-at (x ∷ ss) (suc i) d k lt = get_in-at ss i d k (omega arith)

pub store_agrees : (ss : List Store) (i : ℕ) (s : Store) → AreOwnStores 0 ss → i < length ss → s ≡ get_or ss i s → Agrees home_of_number i s (all_stores ss)
store_agrees ss i s h lt is =
    let own = own_store_at 0 ss i s h lt in
    record {
      own = λ k x e. let at = own k x (ap (λ (t : Store). get t k) (sym is) ∙ e) in omega arith;
      here = λ k at. get-gathered nat_cmp_total nat_cmp-IsAntisymmetric home_of_number ss k (own_files 0 ss h) ∙ ap (λ n. get_in ss n k) at ∙ get_in-at ss i s k lt ∙ ap (λ (t : Store). get t k) (sym is);
    }

pub stores_after : (ss : List Store) (i : ℕ) (own all : Served Store) → AreOwnStores 0 ss → i < length ss → ServesStore i (all_stores ss) own all → all_stores (set ss i own.contents) ≡ all.contents
stores_after ss i own all h lt s = gathered-set nat_cmp_total nat_cmp-IsAntisymmetric home_of_number ss i own.contents all.contents lt (own_files 0 ss h) s.files.own s.files.here s.files.there
