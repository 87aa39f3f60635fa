-- The shards and the stores with which a service opens.
use Rattle.std.proofs.Common.{◌≡◌, ◌≢◌, ℕ, suc, zero, ◌+◌, ◌<◌, ◌≤◌, List, [], ◌∷◌, ◌++◌, length, length-append, map, reverse, Bool, true, false, refl, sym, ◌∙◌, ap, subst, arith}
use Rattle.std.proofs.lemmas.List.{length-map}
use Rattle.std.specs.Prelude.{◌==◌, if◌then◌else◌, Some, None}
use Rattle.std.proofs.lemmas.Bool.Decides.{nat_tests}
use Rattle.std.specs.Ordering.{nat_cmp}
use Rattle.std.specs.Cmp.{nat_cmp_total}
use Rattle.std.specs.Cmp.Lexicographic.{slice_cmp, nat_list_cmp_total}
use Rattle.std.specs.FinMap.{get, empty, gets, get-empty, same_map, nat_cmp-IsAntisymmetric}
use Rattle.next_steps.specs.declared.contents.Row.{Row}
use Rattle.next_steps.specs.declared.contents.RowLock.{RowLock}
use Rattle.next_steps.specs.declared.contents.Debt.{Debt}
use Rattle.next_steps.specs.declared.contents.DirRec.{DirRec}
use Rattle.next_steps.specs.declared.contents.FileRec.{FileRec}
use Rattle.next_rules.specs.Contents.{Shard, Store, opening_shard, empty_shard, opening_part, opening_roster}
use Rattle.next_rules.specs.Setups.{AreCounts}
use Rattle.next_rules.specs.Homes.{home_of_row, home_of_number, home_of_debt, LieFrom, IsOwnShard, IsOwnStore, AreOwnShards, AreOwnStores, all_shards, all_stores}
use Rattle.next_rules.proofs.Names.{bytes_apart}
use Rattle.next_rules.proofs.Homes.{get_in, get-gathered}
use Rattle.next_laws_several.proofs.Whole.{own_rows, own_recs, own_locks, own_debts}
use Rattle.next_laws_shard.proofs.Openings.{opening-own}
use Rattle.next_rules.specs.Several.{View, contents_in, AreNumbered, AreShards, AreStores}
use Rattle.next_shard.specs.declared.shard.Shard.{Shard as ShardItem}
use Rattle.next_store.specs.declared.store.Store.{Store as StoreItem}
use Rattle.next_desk.specs.declared.desk.Desk.{Desk}
use Rattle.next_desk.specs.Desks as desks
use Rattle.next_desk.specs.declared.roster.Roster.{Roster}
use Rattle.next_desk.specs.Rosters as rosters
use Rattle.next_places.specs.declared.place.Place.{Place}
use Rattle.next_places.specs.declared.place.Place.TheVariants as kind
use Rattle.next_places.specs.Held.{opening_held}
use Rattle.next_places.specs.PlaceViews.{shard_view, store_view, number_of, log_of, last_of}
use Rattle.next_places.specs.PlaceLists.{shard_items, store_items, desk_in, roster_in, place_in, counts_in, are_shards_first, are_stores_first, AreService}
use Rattle.next_places.specs.Views.{held_in, lasts_in, logs_in, last_shown, log_shown}

-- a place that has served nothing
pub record IsFresh {C : Type 0} (opening : ℕ → C) (index : ℕ) (v : View C) : Type 0 where
  pub contents : v.contents ≡ opening index
  pub log : v.log ≡ []
  pub last : v.last ≡ 0
  pub index_is : v.index ≡ index

module _ {C : Type 0} (opening : ℕ → C) where
  abbrev pub AreFresh : ℕ → List (View C) → Type 0
  AreFresh first [] = Unit {0}
  AreFresh first (v ∷ vs) = IsFresh opening first v × AreFresh (suc first) vs

  pub fresh_more : (first : ℕ) (vs : List (View C)) (v : View C) → AreFresh first vs → IsFresh opening (length vs + first) v → AreFresh first (vs ++ v ∷ [])
  fresh_more first [] v h is = (subst (λ n. IsFresh opening n v) (omega arith) is, tt)
  fresh_more first (x ∷ vs) v h is = (h.0, fresh_more (suc first) vs v h.1 (subst (λ n. IsFresh opening n v) (omega arith) is))

  numbered : (first : ℕ) (vs : List (View C)) → AreFresh first vs → AreNumbered first vs
  numbered first [] h = tt
  numbered first (v ∷ vs) h = (h.0.index_is, numbered (suc first) vs h.1)

-- ---- shards
root_alone : (k : ℕ) → k ≢ 0 → get opening_shard.recs k ≡ None
root_alone k differ = grind (arith, nat_tests, gets)

own : (first : ℕ) (vs : List (View Shard)) → first + length vs ≤ 64 → AreFresh opening_part first vs → AreOwnShards first (contents_in vs)
own first [] few h = tt
own first (v ∷ vs) few h = (subst (IsOwnShard first) (sym h.0.contents) (opening-own first (omega (arith, few))), own (suc first) vs (omega (arith, few)) h.1)

pub shards_good : (vs : List (View Shard)) → length vs ≤ 64 → AreFresh opening_part 0 vs → AreShards vs
shards_good vs few h = record { few = few; numbered = numbered opening_part 0 vs h; own = own 0 vs (omega (arith, few)) h }

-- the row of a later shard, and its record
later_rows : (first : ℕ) (vs : List (View Shard)) (n : ℕ) (k : List ℕ) → AreFresh opening_part first vs → get_in (map (λ (s : Shard). s.rows) (contents_in vs)) n k ≡ None
later_rows first [] n k h = refl
later_rows first (v ∷ vs) zero k h = ap (λ (s : Shard). get s.rows k) h.0.contents ∙ by_test (first == 0)
  where
    by_test : (b : Bool) → get (if b then opening_shard else empty_shard).rows k ≡ None
    by_test true = get-empty {X = Row} (slice_cmp nat_cmp) k
    by_test false = get-empty {X = Row} (slice_cmp nat_cmp) k
later_rows first (v ∷ vs) (suc n) k h = later_rows (suc first) vs n k h.1

later_locks : (first : ℕ) (vs : List (View Shard)) (n : ℕ) (k : List ℕ) → AreFresh opening_part first vs → get_in (map (λ (s : Shard). s.locks) (contents_in vs)) n k ≡ None
later_locks first [] n k h = refl
later_locks first (v ∷ vs) zero k h = ap (λ (s : Shard). get s.locks k) h.0.contents ∙ by_test (first == 0)
  where
    by_test : (b : Bool) → get (if b then opening_shard else empty_shard).locks k ≡ None
    by_test true = get-empty {X = RowLock} (slice_cmp nat_cmp) k
    by_test false = get-empty {X = RowLock} (slice_cmp nat_cmp) k
later_locks first (v ∷ vs) (suc n) k h = later_locks (suc first) vs n k h.1

later_debts : (first : ℕ) (vs : List (View Shard)) (n : ℕ) (k : List ℕ) → AreFresh opening_part first vs → get_in (map (λ (s : Shard). s.debts) (contents_in vs)) n k ≡ None
later_debts first [] n k h = refl
later_debts first (v ∷ vs) zero k h = ap (λ (s : Shard). get s.debts k) h.0.contents ∙ by_test (first == 0)
  where
    by_test : (b : Bool) → get (if b then opening_shard else empty_shard).debts k ≡ None
    by_test true = get-empty {X = Debt} (slice_cmp nat_cmp) k
    by_test false = get-empty {X = Debt} (slice_cmp nat_cmp) k
later_debts first (v ∷ vs) (suc n) k h = later_debts (suc first) vs n k h.1

later_recs : (first : ℕ) (vs : List (View Shard)) (n : ℕ) (k : ℕ) → AreFresh opening_part (suc first) vs → get_in (map (λ (s : Shard). s.recs) (contents_in vs)) n k ≡ None
later_recs first [] n k h = refl
later_recs first (v ∷ vs) zero k h = ap (λ (s : Shard). get s.recs k) h.0.contents ∙ by_test (suc first == 0) refl
  where
    by_test : (b : Bool) → (suc first == 0) ≡ b → get (if b then opening_shard else empty_shard).recs k ≡ None
    by_test true t = absurd (grind (arith, nat_tests))
    by_test false t = get-empty {X = DirRec} nat_cmp k
later_recs first (v ∷ vs) (suc n) k h = later_recs (suc first) vs n k h.1

all_recs : (vs : List (View Shard)) → 0 < length vs → AreFresh opening_part 0 vs → (k n : ℕ) → home_of_number k ≡ n → get_in (map (λ (s : Shard). s.recs) (contents_in vs)) n k ≡ get opening_shard.recs k
all_recs [] some h k n is = absurd (omega arith)
all_recs (v ∷ vs) some h k zero is = ap (λ (s : Shard). get s.recs k) h.0.contents
all_recs (v ∷ vs) some h k (suc n) is = later_recs 0 vs n k h.1 ∙ sym (root_alone k (λ same. let z : home_of_number k ≡ 0 = rw same refl in omega arith))

pub shards_open : (vs : List (View Shard)) → 0 < length vs → length vs ≤ 64 → AreFresh opening_part 0 vs → all_shards (contents_in vs) ≡ opening_shard
shards_open vs some few h = λ j. record { rows = rows j; recs = recs j; locks = locks j; debts = debts j }
  where
    rows : (all_shards (contents_in vs)).rows ≡ empty
    rows = same_map nat_list_cmp_total bytes_apart _ _ (λ k.
        get-gathered nat_list_cmp_total bytes_apart home_of_row (map (λ (s : Shard). s.rows) (contents_in vs)) k (own_rows 0 (contents_in vs) (own 0 vs (omega (arith, few)) h))
        ∙ later_rows 0 vs (home_of_row k) k h ∙ sym (get-empty {X = Row} (slice_cmp nat_cmp) k))

    locks : (all_shards (contents_in vs)).locks ≡ empty
    locks = same_map nat_list_cmp_total bytes_apart _ _ (λ k.
        get-gathered nat_list_cmp_total bytes_apart home_of_row (map (λ (s : Shard). s.locks) (contents_in vs)) k (own_locks 0 (contents_in vs) (own 0 vs (omega (arith, few)) h))
        ∙ later_locks 0 vs (home_of_row k) k h ∙ sym (get-empty {X = RowLock} (slice_cmp nat_cmp) k))

    debts : (all_shards (contents_in vs)).debts ≡ empty
    debts = same_map nat_list_cmp_total bytes_apart _ _ (λ k.
        get-gathered nat_list_cmp_total bytes_apart home_of_debt (map (λ (s : Shard). s.debts) (contents_in vs)) k (own_debts 0 (contents_in vs) (own 0 vs (omega (arith, few)) h))
        ∙ later_debts 0 vs (home_of_debt k) k h ∙ sym (get-empty {X = Debt} (slice_cmp nat_cmp) k))

    recs : (all_shards (contents_in vs)).recs ≡ opening_shard.recs
    recs = same_map nat_cmp_total nat_cmp-IsAntisymmetric _ _ (λ k.
        get-gathered nat_cmp_total nat_cmp-IsAntisymmetric home_of_number (map (λ (s : Shard). s.recs) (contents_in vs)) k (own_recs 0 (contents_in vs) (own 0 vs (omega (arith, few)) h))
        ∙ all_recs vs some h k (home_of_number k) refl)

-- ---- stores
abbrev pub no_files : ℕ → Store
no_files index = empty

no_file : (k : ℕ) (x : FileRec) → get (empty {X = FileRec} {R = nat_cmp}) k ≡ Some x → ⊥
no_file k x e = let none = get-empty {X = FileRec} nat_cmp k in cc

own_stores : (first : ℕ) (vs : List (View Store)) → AreFresh no_files first vs → AreOwnStores first (contents_in vs)
own_stores first [] h = tt
own_stores first (v ∷ vs) h = (subst (IsOwnStore first) (sym h.0.contents) (λ k x e. absurd (no_file k x e)), own_stores (suc first) vs h.1)

own_files : (first : ℕ) (ss : List Store) → AreOwnStores first ss → LieFrom home_of_number first ss
own_files first [] h = tt
own_files first (s ∷ ss) h = (h.0, own_files (suc first) ss h.1)

pub stores_good : (vs : List (View Store)) → length vs ≤ 64 → AreFresh no_files 0 vs → AreStores vs
stores_good vs few h = record { few = few; numbered = numbered no_files 0 vs h; own = own_stores 0 vs h }

none_in : (first : ℕ) (vs : List (View Store)) (n k : ℕ) → AreFresh no_files first vs → get_in (contents_in vs) n k ≡ None
none_in first [] n k h = refl
none_in first (v ∷ vs) zero k h = ap (λ (s : Store). get s k) h.0.contents ∙ get-empty {X = FileRec} nat_cmp k
none_in first (v ∷ vs) (suc n) k h = none_in (suc first) vs n k h.1

pub stores_open : (vs : List (View Store)) → AreFresh no_files 0 vs → all_stores (contents_in vs) ≡ empty
stores_open vs h = same_map nat_cmp_total nat_cmp-IsAntisymmetric _ _ (λ k.
    get-gathered nat_cmp_total nat_cmp-IsAntisymmetric home_of_number (contents_in vs) k (own_files 0 (contents_in vs) (own_stores 0 vs h))
    ∙ none_in 0 vs (home_of_number k) k h ∙ sym (get-empty {X = FileRec} nat_cmp k))

-- ---- a place is added
pub map-more : {A B : Type 0} (f : A → B) (xs : List A) (x : A) → map f (xs ++ x ∷ []) ≡ map f xs ++ f x ∷ []
map-more f [] x = refl
map-more f (y ∷ ys) x = ap (λ l. f y ∷ l) (map-more f ys x)

-- no place has served an ask
abbrev pub AreQuiet : List Place → Type 0
AreQuiet [] = Unit {0}
AreQuiet (p ∷ ps) = (last_of p ≡ 0) × (log_of p ≡ []) × AreQuiet ps

quiet_more : (ps : List Place) (p : Place) → AreQuiet ps → last_of p ≡ 0 → log_of p ≡ [] → AreQuiet (ps ++ p ∷ [])
quiet_more [] p h last log = (last, log, tt)
quiet_more (q ∷ ps) p h last log = (h.0, h.1, quiet_more ps p h.2 last log)

quiet_lasts : (ps : List Place) (n : ℕ) → AreQuiet ps → lasts_in ps n ≡ 0
quiet_lasts [] n h = refl
quiet_lasts (p ∷ ps) n h = by_test (number_of p == n) (quiet_lasts ps n h.2)
  where
    by_test : (b : Bool) → lasts_in ps n ≡ 0 → last_shown (if b then Some p else place_in ps n) ≡ 0
    by_test true rest = h.0
    by_test false rest = rest

quiet_logs : (ps : List Place) (n : ℕ) → AreQuiet ps → logs_in ps n ≡ []
quiet_logs [] n h = refl
quiet_logs (p ∷ ps) n h = by_test (number_of p == n) (quiet_logs ps n h.2)
  where
    by_test : (b : Bool) → logs_in ps n ≡ [] → log_shown (if b then Some p else place_in ps n) ≡ []
    by_test true rest = ap reverse h.1
    by_test false rest = rest

items-append : (ps qs : List Place) → (shard_items (ps ++ qs) ≡ shard_items ps ++ shard_items qs) × (store_items (ps ++ qs) ≡ store_items ps ++ store_items qs)
items-append [] qs = (refl, refl)
items-append (kind.Shard s ∷ ps) qs = let rest = items-append ps qs in (ap (λ l. s ∷ l) rest.0, rest.1)
items-append (kind.Store t ∷ ps) qs = let rest = items-append ps qs in (rest.0, ap (λ l. t ∷ l) rest.1)
items-append (kind.Desk d ∷ ps) qs = items-append ps qs
items-append (kind.Roster r ∷ ps) qs = items-append ps qs

append_empty : {A : Type 0} (xs : List A) → xs ++ [] ≡ xs
append_empty [] = refl
append_empty (x ∷ xs) = ap (λ l. x ∷ l) (append_empty xs)

append_twice : {A : Type 0} (xs : List A) (y : A) (ys : List A) → (xs ++ y ∷ []) ++ ys ≡ xs ++ y ∷ ys
append_twice [] y ys = refl
append_twice (x ∷ xs) y ys = ap (λ l. x ∷ l) (append_twice xs y ys)

-- the first shards and stores of a service, which is to have more, have served nothing
pub record IsOpening (shards stores : ℕ) (ps : List Place) : Type 0 where
  pub fresh_shards : AreFresh opening_part 0 (map shard_view (shard_items ps))
  pub fresh_stores : AreFresh no_files 0 (map store_view (store_items ps))
  pub shards_are : length (shard_items ps) ≡ shards
  pub stores_are : length (store_items ps) ≡ stores
  pub quiet : AreQuiet ps
  pub jobs : (qs : List Place) → desk_in (ps ++ qs) ≡ desk_in qs
  pub clients : (qs : List Place) → roster_in (ps ++ qs) ≡ roster_in qs

pub opens : IsOpening 0 0 []
opens = record { fresh_shards = tt; fresh_stores = tt; shards_are = refl; stores_are = refl; quiet = tt; jobs = λ qs. refl; clients = λ qs. refl }

pub shard_more : (n m : ℕ) (ps : List Place) (s : ShardItem) → IsOpening n m ps → IsFresh opening_part n (shard_view s) → IsOpening (n + 1) m (ps ++ kind.Shard s ∷ [])
shard_more n m ps s h fresh =
    let items = items-append ps (kind.Shard s ∷ []) in
    record {
      fresh_shards = subst (λ ss. AreFresh opening_part 0 (map shard_view ss)) (sym items.0) (subst (AreFresh opening_part 0) (sym (map-more shard_view (shard_items ps) s))
          (fresh_more opening_part 0 (map shard_view (shard_items ps)) (shard_view s) h.fresh_shards (subst (λ k. IsFresh opening_part k (shard_view s)) (let same = length-map (shard_items ps) shard_view in omega (arith, same, h.shards_are)) fresh)));
      fresh_stores = subst (λ ts. AreFresh no_files 0 (map store_view ts)) (sym (items.1 ∙ append_empty (store_items ps))) h.fresh_stores;
      shards_are = ap length items.0 ∙ length-append (shard_items ps) (s ∷ []) ∙ omega (arith, h.shards_are);
      stores_are = ap length (items.1 ∙ append_empty (store_items ps)) ∙ h.stores_are;
      quiet = quiet_more ps (kind.Shard s) h.quiet fresh.last fresh.log;
      jobs = λ qs. ap desk_in (append_twice ps (kind.Shard s) qs) ∙ h.jobs (kind.Shard s ∷ qs);
      clients = λ qs. ap roster_in (append_twice ps (kind.Shard s) qs) ∙ h.clients (kind.Shard s ∷ qs);
    }

pub store_more : (n m : ℕ) (ps : List Place) (t : StoreItem) → IsOpening n m ps → IsFresh no_files m (store_view t) → IsOpening n (m + 1) (ps ++ kind.Store t ∷ [])
store_more n m ps t h fresh =
    let items = items-append ps (kind.Store t ∷ []) in
    record {
      fresh_shards = subst (λ ss. AreFresh opening_part 0 (map shard_view ss)) (sym (items.0 ∙ append_empty (shard_items ps))) h.fresh_shards;
      fresh_stores = subst (λ ts. AreFresh no_files 0 (map store_view ts)) (sym items.1) (subst (AreFresh no_files 0) (sym (map-more store_view (store_items ps) t))
          (fresh_more no_files 0 (map store_view (store_items ps)) (store_view t) h.fresh_stores (subst (λ k. IsFresh no_files k (store_view t)) (let same = length-map (store_items ps) store_view in omega (arith, same, h.stores_are)) fresh)));
      shards_are = ap length (items.0 ∙ append_empty (shard_items ps)) ∙ h.shards_are;
      stores_are = ap length items.1 ∙ length-append (store_items ps) (t ∷ []) ∙ omega (arith, h.stores_are);
      quiet = quiet_more ps (kind.Store t) h.quiet fresh.last fresh.log;
      jobs = λ qs. ap desk_in (append_twice ps (kind.Store t) qs) ∙ h.jobs (kind.Store t ∷ qs);
      clients = λ qs. ap roster_in (append_twice ps (kind.Store t) qs) ∙ h.clients (kind.Store t ∷ qs);
    }

-- shards are followed by shards, or by stores
abbrev pub StartsShards : List Place → Type 0
StartsShards ps = (qs : List Place) → are_shards_first qs ≡ true → are_shards_first (ps ++ qs) ≡ true

-- and stores by stores, or by the desk
abbrev pub StartsStores : List Place → Type 0
StartsStores ps = (qs : List Place) → are_stores_first qs ≡ true → are_shards_first (ps ++ qs) ≡ true

pub shard_starts : (ps : List Place) (s : ShardItem) → StartsShards ps → StartsShards (ps ++ kind.Shard s ∷ [])
shard_starts ps s h qs first = ap are_shards_first (append_twice ps (kind.Shard s) qs) ∙ h (kind.Shard s ∷ qs) first

pub store_starts : (ps : List Place) (t : StoreItem) → StartsStores ps → StartsStores (ps ++ kind.Store t ∷ [])
store_starts ps t h qs first = ap are_shards_first (append_twice ps (kind.Store t) qs) ∙ h (kind.Store t ∷ qs) first

stores_too : (qs : List Place) → are_stores_first qs ≡ true → are_shards_first qs ≡ true
stores_too [] h = cc
stores_too (kind.Shard s ∷ qs) h = cc
stores_too (kind.Store t ∷ qs) h = h
stores_too (kind.Desk d ∷ qs) h = h
stores_too (kind.Roster r ∷ qs) h = h

pub stores_start : (ps : List Place) → StartsShards ps → StartsStores ps
stores_start ps h qs first = h qs (stores_too qs first)

-- ---- with the desk and the roster these are all
module _ (n m : ℕ) (ps : List Place) (d : Desk) (r : Roster) (h : IsOpening n m ps) (are : AreCounts (record { shards = n; stores = m })) (starts : StartsStores ps) (jobs : desks.contents_of d ≡ [])
    (last : desks.last_of d ≡ 0) (log : desks.log_of d ≡ []) (own_last : rosters.last_of r ≡ 0) (own_log : rosters.log_of r ≡ []) (stopped : (rosters.contents_of r).stopped ≡ []) (ended : (rosters.contents_of r).ended ≡ []) where
  abbrev pub all : List Place
  all = (ps ++ kind.Desk d ∷ []) ++ kind.Roster r ∷ []

  joined : all ≡ ps ++ kind.Desk d ∷ kind.Roster r ∷ []
  joined = append_twice ps (kind.Desk d) (kind.Roster r ∷ [])

  shards_same : shard_items all ≡ shard_items ps
  shards_same = ap shard_items joined ∙ (items-append ps (kind.Desk d ∷ kind.Roster r ∷ [])).0 ∙ append_empty (shard_items ps)

  stores_same : store_items all ≡ store_items ps
  stores_same = ap store_items joined ∙ (items-append ps (kind.Desk d ∷ kind.Roster r ∷ [])).1 ∙ append_empty (store_items ps)

  quiet : AreQuiet all
  quiet = quiet_more (ps ++ kind.Desk d ∷ []) (kind.Roster r) (quiet_more ps (kind.Desk d) h.quiet last log) own_last own_log

  few_views : length (map shard_view (shard_items ps)) ≤ 64
  few_views = let same = length-map (shard_items ps) shard_view in omega (arith, same, h.shards_are, are.shards.1)

  clients : rosters.contents_of r ≡ opening_roster
  clients = λ j. record { stopped = stopped j; ended = ended j }

  pub opens_held : held_in all ≡ opening_held
  opens_held = λ j. record {
    service = record {
      shard = shard j;
      store = store j;
      desk = (ap desk_in joined ∙ h.jobs (kind.Desk d ∷ kind.Roster r ∷ []) ∙ jobs) j;
      roster = (ap roster_in joined ∙ h.clients (kind.Desk d ∷ kind.Roster r ∷ []) ∙ clients) j;
    };
    lasts = λ p. quiet_lasts all p quiet j;
    logs = λ p. quiet_logs all p quiet j;
  }
    where
      shard : (held_in all).service.shard ≡ opening_shard
      shard = ap (λ ss. all_shards (contents_in (map shard_view ss))) shards_same ∙ shards_open (map shard_view (shard_items ps)) (let same = length-map (shard_items ps) shard_view in omega (arith, same, h.shards_are, are.shards.0)) few_views h.fresh_shards

      store : (held_in all).service.store ≡ empty
      store = ap (λ ts. all_stores (contents_in (map store_view ts))) stores_same ∙ stores_open (map store_view (store_items ps)) h.fresh_stores

  pub opens_counts : counts_in all ≡ record { shards = n; stores = m }
  opens_counts = λ j. record { shards = (ap length shards_same ∙ h.shards_are) j; stores = (ap length stores_same ∙ h.stores_are) j }

  pub opens_service : AreService all
  opens_service = record {
    in_order = ap are_shards_first joined ∙ starts (kind.Desk d ∷ kind.Roster r ∷ []) refl;
    counts = subst AreCounts (sym opens_counts) are;
    shards = subst (λ ss. AreShards (map shard_view ss)) (sym shards_same) (shards_good (map shard_view (shard_items ps)) few_views h.fresh_shards);
    stores = subst (λ ts. AreStores (map store_view ts)) (sym stores_same) (stores_good (map store_view (store_items ps)) (let same = length-map (store_items ps) store_view in omega (arith, same, h.stores_are, are.stores.1)) h.fresh_stores);
  }
