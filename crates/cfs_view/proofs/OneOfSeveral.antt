-- A step at one of several places, from what that place shows.
use Rattle.std.proofs.Common.{◌≡◌, ℕ, suc, zero, ◌+◌, ◌<◌, List, [], ◌∷◌, length, set, get_or, sym, ◌∙◌, ap, subst, arith}
use Rattle.std.proofs.lemmas.List.{map-set, length-set, length-map, get_or-map}
use Rattle.cfs_ids.specs.declared.ids.Actor.{Actor}
use Rattle.cfs_steps.specs.declared.ask.Ask.{Ask}
use Rattle.cfs_steps.specs.declared.entry.Entry.{Entry}
use Rattle.cfs_steps.specs.Asks.{place_of}
use Rattle.cfs_rules.specs.Places.{Shard, Store, serve_shard, serve_store, entry_by}
use Rattle.cfs_rules.specs.Worlds.{stamped}
use Rattle.cfs_rules.specs.Homes.{all_shards, all_stores, IsOwnShard, IsOwnStore, AreOwnShards, AreOwnStores}
use Rattle.cfs_rules.proofs.Gathering.{ServesShard, ServesStore, shard_serves, store_serves}
use Rattle.cfs_rules.proofs.Whole.{AreOwnShards-set, shard_agrees, shards_after, AreOwnStores-set, store_agrees, stores_after}
use Rattle.cfs_rules.specs.Several.{View, contents_in, AreNumbered, AreShards, AreStores}

module _ {C : Type 0} where
  numbered_here : (first : ℕ) (vs : List (View C)) (i : ℕ) (d : View C) → AreNumbered first vs → i < length vs → (get_or vs i d).index ≡ i + first
  numbered_here first [] i d h lt = absurd (omega arith)
  numbered_here first (v ∷ vs) zero d h lt = omega (arith, h.0)
  numbered_here first (v ∷ vs) (suc i) d h lt = let n = numbered_here (suc first) vs i d h.1 (omega arith) in omega arith

  AreNumbered-set : (first : ℕ) (vs : List (View C)) (i : ℕ) (v : View C) → AreNumbered first vs → v.index ≡ i + first → AreNumbered first (set vs i v)
  AreNumbered-set first [] i v h is = tt
  AreNumbered-set first (x ∷ vs) zero v h is = (omega (arith, is), h.1)
  AreNumbered-set first (x ∷ vs) (suc i) v h is = (h.0, AreNumbered-set (suc first) vs i v h.1 (omega (arith, is)))

-- ---- shards
module _ (vs : List (View Shard)) (good : AreShards vs) (i : ℕ) (lt : i < length vs) (v : View Shard) (is : v ≡ get_or vs i v) where
  low : i < 64
  low = let few = good.few in omega arith

  contents_lt : i < length (contents_in vs)
  contents_lt = let same = length-map vs (λ (w : View Shard). w.contents) in omega arith

  contents_is : v.contents ≡ get_or (contents_in vs) i v.contents
  contents_is = ap (λ (w : View Shard). w.contents) is ∙ sym (get_or-map (λ (w : View Shard). w.contents) vs i v v.contents lt)

  pub index_is : v.index ≡ i
  index_is = let n = numbered_here 0 vs i v good.numbered lt in ap (λ (w : View Shard). w.index) is ∙ n ∙ omega arith

  serves : (number : ℕ) (ask : Ask) → (place_of ask).0 ≡ i → ServesShard i (all_shards (contents_in vs)) (serve_shard v.contents (stamped number ask) ask) (serve_shard (all_shards (contents_in vs)) (stamped number ask) ask)
  serves number ask here = shard_serves i v.contents (all_shards (contents_in vs)) (shard_agrees (contents_in vs) i v.contents good.own contents_lt contents_is) (stamped number ask) ask here here low

  -- after the shard has served
  pub shard_entry : (actor : Actor) (number : ℕ) (ask : Ask) (entry : Entry) → (place_of ask).0 ≡ i
      → entry ≡ entry_by actor number ask (serve_shard v.contents (stamped number ask) ask) → entry ≡ entry_by actor number ask (serve_shard (all_shards (contents_in vs)) (stamped number ask) ask)
  shard_entry actor number ask entry here entered = let s = serves number ask here in
      entered ∙ (λ j. record { actor = actor; number = number; ask = ask; answer = sym s.answer j; moved = sym s.moved j })

  pub shard_contents : (v' : View Shard) (number : ℕ) (ask : Ask) → (place_of ask).0 ≡ i
      → v'.contents ≡ (serve_shard v.contents (stamped number ask) ask).contents → all_shards (contents_in (set vs i v')) ≡ (serve_shard (all_shards (contents_in vs)) (stamped number ask) ask).contents
  shard_contents v' number ask here contents = ap all_shards (map-set (λ (w : View Shard). w.contents) vs i v' ∙ ap (set (contents_in vs) i) contents) ∙ shards_after (contents_in vs) i _ _ good.own contents_lt (serves number ask here)

  pub shards_good : (v' : View Shard) (number : ℕ) (ask : Ask) → (place_of ask).0 ≡ i → v'.contents ≡ (serve_shard v.contents (stamped number ask) ask).contents → v'.index ≡ v.index → AreShards (set vs i v')
  shards_good v' number ask here contents index = record {
    few = let same = length-set vs i v' in let few = good.few in omega arith;
    numbered = AreNumbered-set 0 vs i v' good.numbered (index ∙ index_is ∙ omega arith);
    own = subst (λ cs. AreOwnShards 0 cs) (sym (map-set (λ (w : View Shard). w.contents) vs i v'))
        (AreOwnShards-set 0 (contents_in vs) i v'.contents good.own (subst (λ (c : Shard). IsOwnShard (i + 0) c) (sym contents) (let s = serves number ask here in record { rows = λ k x e. let at = s.rows.own k x e in omega arith; recs = λ k x e. let at = s.recs.own k x e in omega arith; locks = λ k x e. let at = s.locks.own k x e in omega arith })));
  }

-- ---- stores
module _ (vs : List (View Store)) (good : AreStores vs) (i : ℕ) (lt : i < length vs) (v : View Store) (is : v ≡ get_or vs i v) where
  low_store : i < 64
  low_store = let few = good.few in omega arith

  files_lt : i < length (contents_in vs)
  files_lt = let same = length-map vs (λ (w : View Store). w.contents) in omega arith

  files_is : v.contents ≡ get_or (contents_in vs) i v.contents
  files_is = ap (λ (w : View Store). w.contents) is ∙ sym (get_or-map (λ (w : View Store). w.contents) vs i v v.contents lt)

  pub store_index_is : v.index ≡ i
  store_index_is = let n = numbered_here 0 vs i v good.numbered lt in ap (λ (w : View Store). w.index) is ∙ n ∙ omega arith

  store_serves_all : (number : ℕ) (ask : Ask) → (place_of ask).0 ≡ 64 + i → ServesStore i (all_stores (contents_in vs)) (serve_store v.contents (stamped number ask) ask) (serve_store (all_stores (contents_in vs)) (stamped number ask) ask)
  store_serves_all number ask here = store_serves i v.contents (all_stores (contents_in vs)) (store_agrees (contents_in vs) i v.contents good.own files_lt files_is) (stamped number ask) ask here here low_store

  pub store_entry : (actor : Actor) (number : ℕ) (ask : Ask) (entry : Entry) → (place_of ask).0 ≡ 64 + i
      → entry ≡ entry_by actor number ask (serve_store v.contents (stamped number ask) ask) → entry ≡ entry_by actor number ask (serve_store (all_stores (contents_in vs)) (stamped number ask) ask)
  store_entry actor number ask entry here entered = let s = store_serves_all number ask here in
      entered ∙ (λ j. record { actor = actor; number = number; ask = ask; answer = sym s.answer j; moved = sym s.moved j })

  pub store_contents : (v' : View Store) (number : ℕ) (ask : Ask) → (place_of ask).0 ≡ 64 + i
      → v'.contents ≡ (serve_store v.contents (stamped number ask) ask).contents → all_stores (contents_in (set vs i v')) ≡ (serve_store (all_stores (contents_in vs)) (stamped number ask) ask).contents
  store_contents v' number ask here contents = ap all_stores (map-set (λ (w : View Store). w.contents) vs i v' ∙ ap (set (contents_in vs) i) contents) ∙ stores_after (contents_in vs) i _ _ good.own files_lt (store_serves_all number ask here)

  pub stores_good : (v' : View Store) (number : ℕ) (ask : Ask) → (place_of ask).0 ≡ 64 + i → v'.contents ≡ (serve_store v.contents (stamped number ask) ask).contents → v'.index ≡ v.index → AreStores (set vs i v')
  stores_good v' number ask here contents index = record {
    few = let same = length-set vs i v' in let few = good.few in omega arith;
    numbered = AreNumbered-set 0 vs i v' good.numbered (index ∙ store_index_is ∙ omega arith);
    own = subst (λ cs. AreOwnStores 0 cs) (sym (map-set (λ (w : View Store). w.contents) vs i v'))
        (AreOwnStores-set 0 (contents_in vs) i v'.contents good.own (subst (λ (c : Store). IsOwnStore (i + 0) c) (sym contents) (let s = store_serves_all number ask here in λ k x e. let at = s.files.own k x e in omega arith)));
  }
