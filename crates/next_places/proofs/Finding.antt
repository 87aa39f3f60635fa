-- Where the place with a number stands.
use Rattle.std.proofs.Common.{◌≡◌, ◌≢◌, ℕ, suc, zero, ◌+◌, ◌-◌, ◌<◌, ◌≤◌, List, [], ◌∷◌, length, map, Bool, true, false, refl, sym, ◌∙◌, ap, subst, arith}
use Rattle.std.proofs.lemmas.List.{length-map}
use Rattle.std.specs.Prelude.{◌==◌, ◌||◌, ◌&&◌, if◌then◌else◌, nat_lt, nat_le, slice_get, Option, Some, None, is_some}
use Rattle.std.proofs.lemmas.Bool.Decides.{nat_tests}
use Rattle.std.specs.Option.{option_map}
use Rattle.next_rules.specs.Several.{AreNumbered}
use Rattle.next_shard.specs.declared.shard.Shard.{Shard}
use Rattle.next_shard.specs.Shards as shards
use Rattle.next_store.specs.declared.store.Store.{Store}
use Rattle.next_store.specs.Stores as stores
use Rattle.next_desk.specs.declared.desk.Desk.{Desk}
use Rattle.next_desk.specs.declared.roster.Roster.{Roster}
use Rattle.next_places.specs.declared.place.Place.{Place}
use Rattle.next_places.specs.declared.place.Place.TheVariants as kind
use Rattle.next_rules.specs.Setups.{has_place}
use Rattle.next_places.specs.PlaceViews.{shard_view, store_view, number_of}
use Rattle.next_places.specs.PlaceLists.{shard_items, store_items, place_in, index_in, counts_in, AreService}
use Rattle.next_places.proofs.Composing.{ended, composed, composed_length, compose}

pub place_at_index : (places : List Place) (n : ℕ) → slice_get places (index_in places n) ≡ place_in places n
place_at_index [] n = refl
place_at_index (p ∷ ps) n = by_test (number_of p == n) (place_at_index ps n)
  where
    by_test : (b : Bool) → slice_get ps (index_in ps n) ≡ place_in ps n → slice_get (p ∷ ps) (if b then 0 else suc (index_in ps n)) ≡ (if b then Some p else place_in ps n)
    by_test true rest = refl
    by_test false rest = rest

pub found : (places : List Place) (n : ℕ) → is_some (place_in places n) ≡ nat_lt (index_in places n) (length places)
found [] n = grind (arith, nat_tests)
found (p ∷ ps) n = by_test (number_of p == n) (found ps n)
  where
    by_test : (b : Bool) → is_some (place_in ps n) ≡ nat_lt (index_in ps n) (length ps) → is_some (if b then Some p else place_in ps n) ≡ nat_lt (if b then 0 else suc (index_in ps n)) (suc (length ps))
    by_test true rest = grind (arith, nat_tests)
    by_test false rest = rest ∙ grind (arith, nat_tests)

pub still_some : {A B : Type 0} (f : A → B) (o : Option A) → is_some o ≡ is_some (option_map f o)
still_some f None = refl
still_some f (Some x) = refl

-- ---- the index of each number
module _ (d : Desk) (r : Roster) where
  pub shard_index : (first : ℕ) (ss : List Shard) (ts : List Store) (i : ℕ) → AreNumbered first (map shard_view ss) → i < length ss → index_in (composed d r ss ts) (i + first) ≡ i
  shard_index first [] ts i h lt = absurd (omega arith)
  shard_index first (s ∷ ss) ts zero h lt = let t : (shards.index_of s == 0 + first) ≡ true = grind (arith, nat_tests, h.0) in rw t refl
  shard_index first (s ∷ ss) ts (suc i) h lt =
      let t : (shards.index_of s == suc i + first) ≡ false = grind (arith, nat_tests, h.0) in
      let moved : i + suc first ≡ suc i + first = omega arith in
      rw t (ap suc (subst (λ n. index_in (composed d r ss ts) n ≡ i) moved (shard_index (suc first) ss ts i h.1 (omega arith))))

  ended_index : (first : ℕ) (ts : List Store) (j : ℕ) → AreNumbered first (map store_view ts) → j < length ts → index_in (ended d r ts) (64 + (j + first)) ≡ j
  ended_index first [] j h lt = absurd (omega arith)
  ended_index first (t ∷ ts) zero h lt = let e : (64 + stores.index_of t == 64 + (0 + first)) ≡ true = grind (arith, nat_tests, h.0) in rw e refl
  ended_index first (t ∷ ts) (suc j) h lt =
      let e : (64 + stores.index_of t == 64 + (suc j + first)) ≡ false = grind (arith, nat_tests, h.0) in
      let moved : 64 + (j + suc first) ≡ 64 + (suc j + first) = omega arith in
      rw e (ap suc (subst (λ n. index_in (ended d r ts) n ≡ j) moved (ended_index (suc first) ts j h.1 (omega arith))))

  -- past the shards, none of which has the number, and past the stores
  past_shards : (first : ℕ) (ss : List Shard) (ts : List Store) (n : ℕ) → AreNumbered first (map shard_view ss) → first + length ss ≤ n → index_in (composed d r ss ts) n ≡ length ss + index_in (ended d r ts) n
  past_shards first [] ts n h past = omega arith
  past_shards first (s ∷ ss) ts n h past = let t : (shards.index_of s == n) ≡ false = grind (arith, nat_tests, h.0) in let rest = past_shards (suc first) ss ts n h.1 (omega arith) in rw t (omega (arith, rest))

  past_stores : (first : ℕ) (ts : List Store) (n : ℕ) → AreNumbered first (map store_view ts) → 64 + first + length ts ≤ n → index_in (ended d r ts) n ≡ length ts + index_in (kind.Desk d ∷ kind.Roster r ∷ []) n
  past_stores first [] n h past = omega arith
  past_stores first (t ∷ ts) n h past = let e : (64 + stores.index_of t == n) ≡ false = grind (arith, nat_tests, h.0) in let rest = past_stores (suc first) ts n h.1 (omega arith) in rw e (omega (arith, rest))

  -- a number between the shards and the stores
  before_stores : (first : ℕ) (ts : List Store) (n : ℕ) → AreNumbered first (map store_view ts) → n < 64 + first → n < 128 → index_in (ended d r ts) n ≡ length ts + 2
  before_stores first [] n h below low =
      let desk : (128 == n) ≡ false = grind (arith, nat_tests) in
      let roster : (129 == n) ≡ false = grind (arith, nat_tests) in
      rw (desk, roster) refl
  before_stores first (t ∷ ts) n h below low = let e : (64 + stores.index_of t == n) ≡ false = grind (arith, nat_tests, h.0) in let rest = before_stores (suc first) ts n h.1 (omega arith) low in rw e (omega (arith, rest))

  end_index : (n : ℕ) → n ≢ 128 → n ≢ 129 → index_in (kind.Desk d ∷ kind.Roster r ∷ []) n ≡ 2
  end_index n not_desk not_roster =
      let desk : (128 == n) ≡ false = grind (arith, nat_tests) in
      let roster : (129 == n) ≡ false = grind (arith, nat_tests) in
      rw (desk, roster) refl

-- ---- in all places of a service
module _ (ps : List Place) (good : AreService ps) where
  pub few_shards : length (shard_items ps) ≤ 64
  few_shards = let few = good.shards.few in let same = length-map (shard_items ps) shard_view in omega arith

  pub few_stores : length (store_items ps) ≤ 64
  few_stores = let few = good.stores.few in let same = length-map (store_items ps) store_view in omega arith

  pub places_length : length ps ≡ length (shard_items ps) + length (store_items ps) + 2
  places_length = let c = compose ps good.in_order in ap length c.is ∙ composed_length c.desk c.roster (shard_items ps) (store_items ps)

  pub few_places : length ps ≤ 130
  few_places = let total = places_length in let shards = few_shards in let stores = few_stores in omega arith

  pub index_of_shard : (n : ℕ) → n < length (shard_items ps) → index_in ps n ≡ n
  index_of_shard n lt = let c = compose ps good.in_order in
      ap (λ l. index_in l n) c.is ∙ subst (λ m. index_in (composed c.desk c.roster (shard_items ps) (store_items ps)) m ≡ n) (omega arith) (shard_index c.desk c.roster 0 (shard_items ps) (store_items ps) n good.shards.numbered lt)

  past : (n : ℕ) → 64 ≤ n → (let c = compose ps good.in_order in index_in ps n ≡ length (shard_items ps) + index_in (ended c.desk c.roster (store_items ps)) n)
  past n high = let c = compose ps good.in_order in ap (λ l. index_in l n) c.is ∙ past_shards c.desk c.roster 0 (shard_items ps) (store_items ps) n good.shards.numbered (let few = few_shards in omega arith)

  pub index_of_store : (j : ℕ) → j < length (store_items ps) → index_in ps (64 + j) ≡ length (shard_items ps) + j
  index_of_store j lt = let c = compose ps good.in_order in
      past (64 + j) (omega arith) ∙ ap (λ k. length (shard_items ps) + k) (subst (λ m. index_in (ended c.desk c.roster (store_items ps)) (64 + m) ≡ j) (omega arith) (ended_index c.desk c.roster 0 (store_items ps) j good.stores.numbered lt))

  past_both : (n : ℕ) → 128 ≤ n → (let c = compose ps good.in_order in index_in ps n ≡ length (shard_items ps) + (length (store_items ps) + index_in (kind.Desk c.desk ∷ kind.Roster c.roster ∷ []) n))
  past_both n high = let c = compose ps good.in_order in
      past n (omega arith) ∙ ap (λ k. length (shard_items ps) + k) (past_stores c.desk c.roster 0 (store_items ps) n good.stores.numbered (let few = few_stores in omega arith))

  pub index_of_desk : index_in ps 128 ≡ length (shard_items ps) + length (store_items ps)
  index_of_desk = let e = past_both 128 (omega arith) in e ∙ omega arith

  pub index_of_roster : index_in ps 129 ≡ length (shard_items ps) + length (store_items ps) + 1
  index_of_roster = let e = past_both 129 (omega arith) in e ∙ omega arith

  pub index_of_end : (n : ℕ) → 128 ≤ n → n < 130 → index_in ps n ≡ length (shard_items ps) + length (store_items ps) + (n - 128)
  index_of_end n high low = by_test (n == 128) refl
    where
      by_test : (b : Bool) → (n == 128) ≡ b → index_in ps n ≡ length (shard_items ps) + length (store_items ps) + (n - 128)
      by_test true t = let is : n ≡ 128 = grind (arith, nat_tests) in rw is (index_of_desk ∙ omega arith)
      by_test false t = let differ : n ≢ 128 = grind (arith, nat_tests) in let is : n ≡ 129 = omega (arith, high, low, differ) in rw is (index_of_roster ∙ omega arith)

  -- no place has the number
  pub no_index : (n : ℕ) → length (shard_items ps) ≤ n → (64 ≤ n → 64 + length (store_items ps) ≤ n) → n ≢ 128 → n ≢ 129 → index_in ps n ≡ length ps
  no_index n no_shard no_store no_desk no_roster = by_tests (nat_lt n 64) refl ∙ sym places_length
    where
      by_tests : (b : Bool) → nat_lt n 64 ≡ b → index_in ps n ≡ length (shard_items ps) + length (store_items ps) + 2
      by_tests true t =
          let low : n < 64 = grind (arith, nat_tests) in
          let c = compose ps good.in_order in
          ap (λ l. index_in l n) c.is ∙ past_shards c.desk c.roster 0 (shard_items ps) (store_items ps) n good.shards.numbered (omega (arith, no_shard))
          ∙ ap (λ k. length (shard_items ps) + k) (before_stores c.desk c.roster 0 (store_items ps) n good.stores.numbered (omega (arith, low)) (omega (arith, low)))
          ∙ omega arith
      by_tests false t =
          let high : 64 ≤ n = grind (arith, nat_tests) in
          let beyond = no_store high in
          let c = compose ps good.in_order in
          past n high ∙ ap (λ k. length (shard_items ps) + k) (past_stores c.desk c.roster 0 (store_items ps) n good.stores.numbered (omega (arith, beyond)) ∙ ap (λ k. length (store_items ps) + k) (end_index c.desk c.roster n no_desk no_roster))
          ∙ omega arith

  -- the service has a place exactly where it is found
  pub there : (n : ℕ) → is_some (place_in ps n) ≡ has_place (counts_in ps) n
  there n = found ps n ∙ by_shard (nat_lt n (length (shard_items ps))) refl
    where
      total : length ps ≡ length (shard_items ps) + length (store_items ps) + 2
      total = places_length

      by_end : (b : Bool) → (n == 128) ≡ b → (c : Bool) → (n == 129) ≡ c → length (shard_items ps) ≤ n → (64 ≤ n → 64 + length (store_items ps) ≤ n) → nat_lt (index_in ps n) (length ps) ≡ (b || c)
      by_end true t c u shards_below stores_below = let is : n ≡ 128 = grind (arith, nat_tests) in let at : index_in ps n ≡ length (shard_items ps) + length (store_items ps) = rw is index_of_desk in rw (at, total) (grind (arith, nat_tests))
      by_end false t true u shards_below stores_below = let is : n ≡ 129 = grind (arith, nat_tests) in let at : index_in ps n ≡ length (shard_items ps) + length (store_items ps) + 1 = rw is index_of_roster in rw (at, total) (grind (arith, nat_tests))
      by_end false t false u shards_below stores_below =
          let desk : n ≢ 128 = grind (arith, nat_tests) in let roster : n ≢ 129 = grind (arith, nat_tests) in
          rw (no_index n shards_below stores_below desk roster) (grind (arith, nat_tests))

      by_store : (b : Bool) → (nat_le 64 n && nat_lt n (64 + length (store_items ps))) ≡ b → length (shard_items ps) ≤ n → nat_lt (index_in ps n) (length ps) ≡ (b || ((n == 128) || (n == 129)))
      by_store true t shards_below =
          let high : 64 ≤ n = grind (arith, nat_tests) in let low : n < 64 + length (store_items ps) = grind (arith, nat_tests) in
          let is : 64 + (n - 64) ≡ n = omega (arith, high) in
          let at : index_in ps n ≡ length (shard_items ps) + (n - 64) = subst (λ m. index_in ps m ≡ length (shard_items ps) + (n - 64)) is (index_of_store (n - 64) (omega (arith, high, low))) in
          rw (at, total) (grind (arith, nat_tests, high, low))
      by_store false t shards_below = by_end (n == 128) refl (n == 129) refl shards_below (λ high. grind (arith, nat_tests))

      by_shard : (b : Bool) → nat_lt n (length (shard_items ps)) ≡ b → nat_lt (index_in ps n) (length ps) ≡ (b || ((nat_le 64 n && nat_lt n (64 + length (store_items ps))) || ((n == 128) || (n == 129))))
      by_shard true t = let lt : n < length (shard_items ps) = grind (arith, nat_tests) in rw (index_of_shard n lt, total) (grind (arith, nat_tests, lt))
      by_shard false t = by_store (nat_le 64 n && nat_lt n (64 + length (store_items ps))) refl (grind (arith, nat_tests))
