-- A step at one of several places, from what that place shows.
use Rattle.std.proofs.Common.{◌≡◌, ℕ, suc, zero, ◌+◌, ◌<◌, List, [], ◌∷◌, length, set, get_or, sym, ◌∙◌, ap, subst, arith}
use Rattle.std.specs.Prelude.{slice_get, Some}
use Rattle.std.proofs.lemmas.List.{map-set, length-set, length-map, get_or-map}
use Rattle.next_ids.specs.declared.ids.Stamp.{Stamp}
use Rattle.next_steps.specs.declared.ask.Ask.{Ask}
use Rattle.next_steps.specs.Asks.{place_of}
use Rattle.next_rules.specs.Contents.{Shard, Store}
use Rattle.next_rules.specs.Places.{serve_shard}
use Rattle.next_rules.specs.Stores.{serve_store}
use Rattle.next_rules.specs.Homes.{all_shards, all_stores, AreOwnShards, AreOwnStores}
use Rattle.next_rules.specs.Several.{View, contents_in, AreNumbered, AreShards, AreStores}
use Rattle.next_laws_several.specs.Several.{ShardServes, StoreServes}
use Rattle.next_laws_several.proofs.Laws.{shards-law, stores-law}

there_at : {X : Type 0} (xs : List X) (i : ℕ) (x d : X) → i < length xs → x ≡ get_or xs i d → slice_get xs i ≡ Some x
there_at [] i x d lt is = absurd (omega arith)
there_at (y ∷ xs) zero x d lt is = ap Some (sym is)
there_at (y ∷ xs) (suc i) x d lt is = there_at xs i x d (omega arith) is

module _ {C : Type 0} where
  numbered_here : (first : ℕ) (vs : List (View C)) (i : ℕ) (d : View C) → AreNumbered first vs → i < length vs → (get_or vs i d).index ≡ i + first
  numbered_here first [] i d h lt = absurd (omega arith)
  numbered_here first (v ∷ vs) zero d h lt = omega (arith, h.0)
  numbered_here first (v ∷ vs) (suc i) d h lt = let n = numbered_here (suc first) vs i d h.1 (omega arith) in omega arith

  AreNumbered-set : (first : ℕ) (vs : List (View C)) (i : ℕ) (v : View C) → AreNumbered first vs → v.index ≡ i + first → AreNumbered first (set vs i v)
  AreNumbered-set first [] i v h is = tt
  AreNumbered-set first (x ∷ vs) zero v h is = (omega (arith, is), h.1)
  AreNumbered-set first (x ∷ vs) (suc i) v h is = (h.0, AreNumbered-set (suc first) vs i v h.1 (omega (arith, is)))

  -- the contents of the view at an index
  contents_there : (vs : List (View C)) (i : ℕ) (v : View C) → i < length vs → v ≡ get_or vs i v → slice_get (contents_in vs) i ≡ Some v.contents
  contents_there vs i v lt is =
      there_at (contents_in vs) i v.contents v.contents (let same = length-map vs (λ (w : View C). w.contents) in omega arith)
      (ap (λ (w : View C). w.contents) is ∙ sym (get_or-map (λ (w : View C). w.contents) vs i v v.contents lt))

-- ---- shards
module _ (vs : List (View Shard)) (good : AreShards vs) (i : ℕ) (lt : i < length vs) (v : View Shard) (is : v ≡ get_or vs i v) where
  pub index_is : v.index ≡ i
  index_is = let n = numbered_here 0 vs i v good.numbered lt in ap (λ (w : View Shard). w.index) is ∙ n ∙ omega arith

  module _ (at : Stamp) (moment : ℕ) (ask : Ask) (own : at.place.0 ≡ i) (here : (place_of ask).0 ≡ i) where
    pub shard_serves : ShardServes (contents_in vs) i v.contents at moment ask
    shard_serves = shards-law (contents_in vs) i v.contents at moment ask good.own (contents_there vs i v lt is) (let few = good.few in omega arith) own here

    -- after the shard has served
    module _ (v' : View Shard) (contents : v'.contents ≡ (serve_shard v.contents at moment ask).contents) where
      set_contents : contents_in (set vs i v') ≡ set (contents_in vs) i (serve_shard v.contents at moment ask).contents
      set_contents = map-set (λ (w : View Shard). w.contents) vs i v' ∙ ap (set (contents_in vs) i) contents

      pub shard_contents : all_shards (contents_in (set vs i v')) ≡ (serve_shard (all_shards (contents_in vs)) at moment ask).contents
      shard_contents = ap all_shards set_contents ∙ sym shard_serves.0.contents

      pub shards_good : v'.index ≡ v.index → AreShards (set vs i v')
      shards_good index = record {
        few = let same = length-set vs i v' in let few = good.few in omega arith;
        numbered = AreNumbered-set 0 vs i v' good.numbered (index ∙ index_is ∙ omega arith);
        own = subst (λ cs. AreOwnShards 0 cs) (sym set_contents) shard_serves.1;
      }

-- ---- stores
module _ (vs : List (View Store)) (good : AreStores vs) (i : ℕ) (lt : i < length vs) (v : View Store) (is : v ≡ get_or vs i v) where
  pub store_index_is : v.index ≡ i
  store_index_is = let n = numbered_here 0 vs i v good.numbered lt in ap (λ (w : View Store). w.index) is ∙ n ∙ omega arith

  module _ (at : Stamp) (moment : ℕ) (ask : Ask) (own : at.place.0 ≡ 64 + i) (here : (place_of ask).0 ≡ 64 + i) where
    pub store_serves : StoreServes (contents_in vs) i v.contents at moment ask
    store_serves = stores-law (contents_in vs) i v.contents at moment ask good.own (contents_there vs i v lt is) (let few = good.few in omega arith) own here

    -- after the store has served
    module _ (v' : View Store) (contents : v'.contents ≡ (serve_store v.contents at moment ask).contents) where
      set_files : contents_in (set vs i v') ≡ set (contents_in vs) i (serve_store v.contents at moment ask).contents
      set_files = map-set (λ (w : View Store). w.contents) vs i v' ∙ ap (set (contents_in vs) i) contents

      pub store_contents : all_stores (contents_in (set vs i v')) ≡ (serve_store (all_stores (contents_in vs)) at moment ask).contents
      store_contents = ap all_stores set_files ∙ sym store_serves.0.contents

      pub stores_good : v'.index ≡ v.index → AreStores (set vs i v')
      stores_good index = record {
        few = let same = length-set vs i v' in let few = good.few in omega arith;
        numbered = AreNumbered-set 0 vs i v' good.numbered (index ∙ store_index_is ∙ omega arith);
        own = subst (λ cs. AreOwnStores 0 cs) (sym set_files) store_serves.1;
      }
