-- All shards together after one of them has served an ask, and all stores.
use Rattle.std.proofs.Common.{◌≡◌, ℕ, suc, zero, ◌+◌, ◌<◌, List, [], ◌∷◌, map, length, set, get_or, refl, sym, ◌∙◌, ap, subst, arith}
use Rattle.std.proofs.lemmas.List.{map-set, length-map}
use Rattle.std.specs.Cmp.{IsTotalOrder, nat_cmp_total}
use Rattle.std.specs.Cmp.Lexicographic.{nat_list_cmp_total}
use Rattle.std.specs.declared.cmp.Ordering.{Ordering}
use Rattle.std.specs.FinMap.{FinMap, IsAntisymmetric, get, nat_cmp-IsAntisymmetric}
use Rattle.next_ids.specs.declared.ids.Stamp.{Stamp}
use Rattle.next_steps.specs.declared.ask.Ask.{Ask}
use Rattle.next_steps.specs.Asks.{place_of}
use Rattle.next_rules.specs.Contents.{Shard, Store}
use Rattle.next_rules.specs.Places.{serve_shard}
use Rattle.next_rules.specs.Stores.{serve_store}
use Rattle.next_rules.specs.Homes.{home_of_row, home_of_number, home_of_debt, gathered, LieAt, LieFrom, all_shards, all_stores, IsOwnShard, AreOwnShards, AreOwnStores}
use Rattle.next_rules.proofs.Names.{bytes_apart}
use Rattle.next_rules.proofs.Homes.{get_in, get-gathered, gathered-set}
use Rattle.next_laws_several.specs.Several.{ServesAsAll}
use Rattle.next_laws_several.proofs.Parts.{Moves}
use Rattle.next_laws_several.proofs.Changed.{Alike}
use Rattle.next_laws_several.proofs.Shards as shards
use Rattle.next_laws_several.proofs.Stores as stores

-- ---- the maps of all places of a kind, as each place shows one
module _ {A K X : Type 0} {R : K → K → Ordering} (f : A → FinMap R X) where
  get_in-map : (xs : List A) (i : ℕ) (d : A) (k : K) → i < length xs → get_in (map f xs) i k ≡ get (f (get_or xs i d)) k
  get_in-map [] i d k lt = absurd (omega arith)
  get_in-map (x ∷ xs) zero d k lt = refl
  get_in-map (x ∷ xs) (suc i) d k lt = get_in-map xs i d k (omega arith)

  lie_at : (home : K → ℕ) (first : ℕ) (xs : List A) (i : ℕ) (d : A) → LieFrom home first (map f xs) → i < length xs → LieAt home (i + first) (f (get_or xs i d))
  lie_at home first [] i d h lt = absurd (omega arith)
  lie_at home first (x ∷ xs) zero d h lt = λ k y e. let at = h.0 k y e in omega arith
  lie_at home first (x ∷ xs) (suc i) d h lt = let o = lie_at home (suc first) xs i d h.1 (omega arith) in λ k y e. let at = o k y e in omega arith

  -- the map of one of them, and the map of all
  part : (o : IsTotalOrder R) (same : IsAntisymmetric R) (home : K → ℕ) (xs : List A) (i : ℕ) (d : A) → LieFrom home 0 (map f xs) → i < length xs
      → Moves home i (gathered (map f xs)) (f (get_or xs i d)) (gathered (map f xs))
  part o same home xs i d h lt = record {
    own = λ k y e. let at = lie_at home 0 xs i d h lt k y e in omega arith;
    here = λ k at. get-gathered o same home (map f xs) k h ∙ ap (λ n. get_in (map f xs) n k) at ∙ get_in-map xs i d k lt;
    there = λ k away. refl;
  }

  -- the map of all once that of one has changed as the map of all has
  whole : (o : IsTotalOrder R) (same : IsAntisymmetric R) (home : K → ℕ) (xs : List A) (i : ℕ) (x : A) (w : FinMap R X) → LieFrom home 0 (map f xs) → i < length xs
      → Moves home i (gathered (map f xs)) (f x) w → gathered (map f (set xs i x)) ≡ w
  whole o same home xs i x w h lt m =
      ap gathered (map-set f xs i x)
      ∙ gathered-set o same home (map f xs) i (f x) w (let count = length-map xs f in omega arith) h m.own m.here m.there

-- ---- shards
pub own_rows : (first : ℕ) (ss : List Shard) → AreOwnShards first ss → LieFrom home_of_row first (map (λ (s : Shard). s.rows) ss)
own_rows first [] h = tt
own_rows first (s ∷ ss) h = (h.0.rows, own_rows (suc first) ss h.1)

pub own_recs : (first : ℕ) (ss : List Shard) → AreOwnShards first ss → LieFrom home_of_number first (map (λ (s : Shard). s.recs) ss)
own_recs first [] h = tt
own_recs first (s ∷ ss) h = (h.0.recs, own_recs (suc first) ss h.1)

pub own_locks : (first : ℕ) (ss : List Shard) → AreOwnShards first ss → LieFrom home_of_row first (map (λ (s : Shard). s.locks) ss)
own_locks first [] h = tt
own_locks first (s ∷ ss) h = (h.0.locks, own_locks (suc first) ss h.1)

pub own_debts : (first : ℕ) (ss : List Shard) → AreOwnShards first ss → LieFrom home_of_debt first (map (λ (s : Shard). s.debts) ss)
own_debts first [] h = tt
own_debts first (s ∷ ss) h = (h.0.debts, own_debts (suc first) ss h.1)

IsOwnShard-moved : (i j : ℕ) (s : Shard) → i ≡ j → IsOwnShard i s → IsOwnShard j s
IsOwnShard-moved i j s e own = record {
  rows = λ k x there. own.rows k x there ∙ e;
  recs = λ k x there. own.recs k x there ∙ e;
  locks = λ k x there. own.locks k x there ∙ e;
  debts = λ k x there. own.debts k x there ∙ e;
}

own_shards-set : (first : ℕ) (ss : List Shard) (i : ℕ) (s : Shard) → AreOwnShards first ss → IsOwnShard (i + first) s → AreOwnShards first (set ss i s)
own_shards-set first [] i s h own = tt
own_shards-set first (x ∷ ss) zero s h own = (IsOwnShard-moved _ _ s (omega arith) own, h.1)
own_shards-set first (x ∷ ss) (suc i) s h own = (h.0, own_shards-set (suc first) ss i s h.1 (IsOwnShard-moved _ _ s (omega arith) own))

module _ (ss : List Shard) (i : ℕ) (d : Shard) (h : AreOwnShards 0 ss) (lt : i < length ss) where
  shard_part : Alike i (all_shards ss) (get_or ss i d) (all_shards ss)
  shard_part = record {
    rows = part (λ (s : Shard). s.rows) nat_list_cmp_total bytes_apart home_of_row ss i d (own_rows 0 ss h) lt;
    recs = part (λ (s : Shard). s.recs) nat_cmp_total nat_cmp-IsAntisymmetric home_of_number ss i d (own_recs 0 ss h) lt;
    locks = part (λ (s : Shard). s.locks) nat_list_cmp_total bytes_apart home_of_row ss i d (own_locks 0 ss h) lt;
    debts = part (λ (s : Shard). s.debts) nat_list_cmp_total bytes_apart home_of_debt ss i d (own_debts 0 ss h) lt;
  }

  shards_whole : (s w : Shard) → Alike i (all_shards ss) s w → all_shards (set ss i s) ≡ w
  shards_whole s w a =
      let rows = whole (λ (t : Shard). t.rows) nat_list_cmp_total bytes_apart home_of_row ss i s w.rows (own_rows 0 ss h) lt a.rows in
      let recs = whole (λ (t : Shard). t.recs) nat_cmp_total nat_cmp-IsAntisymmetric home_of_number ss i s w.recs (own_recs 0 ss h) lt a.recs in
      let locks = whole (λ (t : Shard). t.locks) nat_list_cmp_total bytes_apart home_of_row ss i s w.locks (own_locks 0 ss h) lt a.locks in
      let debts = whole (λ (t : Shard). t.debts) nat_list_cmp_total bytes_apart home_of_debt ss i s w.debts (own_debts 0 ss h) lt a.debts in
      λ j. record { rows = rows j; recs = recs j; locks = locks j; debts = debts j }

  pub shards_serve : (at : Stamp) (moment : ℕ) (x : Ask) → at.place.0 ≡ i → i < 64 → (place_of x).0 ≡ i
      → (let one = serve_shard (get_or ss i d) at moment x in
      ServesAsAll one (serve_shard (all_shards ss) at moment x) (all_shards (set ss i one.contents)) × AreOwnShards 0 (set ss i one.contents))
  shards_serve at moment x own low home =
      let s = shards.serves-alike i (all_shards ss) (get_or ss i d) (all_shards ss) shard_part at moment own low x home in
      let one = serve_shard (get_or ss i d) at moment x in
      let all = serve_shard (all_shards ss) at moment x in (
        record { answer = s.answer; moved = s.moved; contents = sym (shards_whole one.contents all.contents s.contents) },
        own_shards-set 0 ss i one.contents h (IsOwnShard-moved i (i + 0) one.contents (omega arith) (record { rows = s.contents.rows.own; recs = s.contents.recs.own; locks = s.contents.locks.own; debts = s.contents.debts.own })),
      )

-- ---- stores
own_files : (first : ℕ) (ss : List Store) → AreOwnStores first ss → LieFrom home_of_number first (map (λ (s : Store). s) ss)
own_files first [] h = tt
own_files first (s ∷ ss) h = (h.0, own_files (suc first) ss h.1)

same_list : (ss : List Store) → map (λ (s : Store). s) ss ≡ ss
same_list [] = refl
same_list (s ∷ ss) = ap (λ l. s ∷ l) (same_list ss)

own_stores-set : (first : ℕ) (ss : List Store) (i : ℕ) (s : Store) → AreOwnStores first ss → LieAt home_of_number (i + first) s → AreOwnStores first (set ss i s)
own_stores-set first [] i s h own = tt
own_stores-set first (x ∷ ss) zero s h own = ((λ k y e. let at = own k y e in omega arith), h.1)
own_stores-set first (x ∷ ss) (suc i) s h own = (h.0, own_stores-set (suc first) ss i s h.1 (λ k y e. let at = own k y e in omega arith))

module _ (ss : List Store) (i : ℕ) (d : Store) (h : AreOwnStores 0 ss) (lt : i < length ss) where
  store_part : Moves home_of_number i (all_stores ss) (get_or ss i d) (all_stores ss)
  store_part = subst (λ l. Moves home_of_number i (gathered l) (get_or ss i d) (gathered l)) (same_list ss)
      (part (λ (s : Store). s) nat_cmp_total nat_cmp-IsAntisymmetric home_of_number ss i d (own_files 0 ss h) lt)

  stores_whole : (s w : Store) → Moves home_of_number i (all_stores ss) s w → all_stores (set ss i s) ≡ w
  stores_whole s w a = ap gathered (sym (same_list (set ss i s)))
      ∙ whole (λ (t : Store). t) nat_cmp_total nat_cmp-IsAntisymmetric home_of_number ss i s w (own_files 0 ss h) lt (subst (λ l. Moves home_of_number i (gathered l) s w) (sym (same_list ss)) a)

  pub stores_serve : (at : Stamp) (moment : ℕ) (x : Ask) → at.place.0 ≡ 64 + i → i < 64 → (place_of x).0 ≡ 64 + i
      → (let one = serve_store (get_or ss i d) at moment x in
      ServesAsAll one (serve_store (all_stores ss) at moment x) (all_stores (set ss i one.contents)) × AreOwnStores 0 (set ss i one.contents))
  stores_serve at moment x own low home =
      let s = stores.serves-alike i (all_stores ss) (get_or ss i d) (all_stores ss) store_part at moment own low x home in
      let one = serve_store (get_or ss i d) at moment x in
      let all = serve_store (all_stores ss) at moment x in (
        record { answer = s.answer; moved = s.moved; contents = sym (stores_whole one.contents all.contents s.contents) },
        own_stores-set 0 ss i one.contents h (λ k y e. let at = s.contents.own k y e in omega arith),
      )
