-- What serving an ask makes of all places.
use Rattle.std.proofs.Common.{◌≡◌, ℕ, ◌+◌, ◌<◌, ◌≤◌, List, [], ◌∷◌, ◌++◌, length, map, set, get_or, true, false, sym, ◌∙◌, ap, subst, arith, Result, Ok, Err}
use Rattle.std.proofs.lemmas.List.{map-set, length-set, length-map, get_or-map, set-get_or}
use Rattle.std.specs.Prelude.{◌==◌, IfOk, OnOk, OnErr, nat_lt, IsTrue}
use Rattle.std.proofs.lemmas.Bool.Decides.{nat_tests}
use Rattle.cfs_ids.specs.declared.ids.Actor.{Actor}
use Rattle.cfs_ids.specs.declared.ids.Stamp.{Stamp}
use Rattle.cfs_steps.specs.declared.ask.Ask.{Ask}
use Rattle.cfs_steps.specs.declared.entry.Entry.{Entry}
use Rattle.cfs_steps.specs.declared.serve_fault.ServeFault.{ServeFault}
use Rattle.cfs_steps.specs.Asks.{place_of}
use Rattle.cfs_rules.specs.Places.{Roster as RosterContents, serve_shard, serve_store, serve_roster, serve_desk, entry_by, number_after}
use Rattle.cfs_rules.specs.Worlds.{stamped}
use Rattle.cfs_rules.specs.Homes.{all_shards, all_stores}
use Rattle.cfs_rules.specs.Several.{contents_in, AreShards, AreStores}
use Rattle.cfs_shard.specs.declared.shard.Shard.{Shard}
use Rattle.cfs_shard.specs.Shards as shards
use Rattle.cfs_store.specs.declared.store.Store.{Store}
use Rattle.cfs_store.specs.Stores as stores
use Rattle.cfs_desk.specs.declared.desk.Desk.{Desk}
use Rattle.cfs_desk.specs.Desks as desks
use Rattle.cfs_desk.specs.declared.roster.Roster.{Roster}
use Rattle.cfs_desk.specs.Rosters as rosters
use Rattle.cfs_view.specs.declared.place.Place.{Place}
use Rattle.cfs_view.specs.declared.place.Place.TheVariants as kind
use Rattle.cfs_view.specs.Held.{Step, serve, serve_in, serve_late, after_shard, after_store, after_desk, after_roster, has_place}
use Rattle.cfs_view.specs.PlaceViews.{shard_view, store_view}
use Rattle.cfs_view.specs.PlaceLists.{shard_items, store_items, roster_in, index_in, are_shards_first, AreService}
use Rattle.cfs_view.specs.Views.{held_in, counts_in, lasts_in}
use Rattle.cfs_view.proofs.Changing.{number_here, last_here, lasts_step, logs_step, lasts_kept, logs_kept}
use Rattle.cfs_view.proofs.Composing.{composed, composed_shards, composed_stores, composed_roster, composed_order, set_shard, set_store, set_desk, set_roster, Stands, stands, compose}
use Rattle.cfs_view.proofs.Finding.{found, there}
use Rattle.cfs_view.proofs.OneOfSeveral.{index_is, shard_entry, shard_contents, shards_good, store_index_is, store_entry, store_contents, stores_good}

-- a place that is there stands in the list
pub stands_there : (ps : List Place) → AreService ps → (n : ℕ) → IsTrue (has_place (counts_in ps) n) → index_in ps n < length ps
stands_there ps good n h = let is : nat_lt (index_in ps n) (length ps) ≡ true = sym (found ps n) ∙ there ps good n ∙ h in grind (arith, nat_tests)

-- what the list with one place changed has
record Shows (ps : List Place) (ss : List Shard) (ts : List Store) (clients : RosterContents) : Type 0 where
  shards : shard_items ps ≡ ss
  stores : store_items ps ≡ ts
  roster : roster_in ps ≡ clients
  order : are_shards_first ps ≡ true

shows : (ps : List Place) (d : Desk) (r : Roster) (ss : List Shard) (ts : List Store) → ps ≡ composed d r ss ts → Shows ps ss ts (rosters.contents_of r)
shows ps d r ss ts is = record {
  shards = ap shard_items is ∙ composed_shards d r ss ts;
  stores = ap store_items is ∙ composed_stores d r ss ts;
  roster = ap roster_in is ∙ composed_roster d r ss ts;
  order = ap are_shards_first is ∙ composed_order d r ss ts;
}

same_counts : (ps qs : List Place) → length (shard_items qs) ≡ length (shard_items ps) → length (store_items qs) ≡ length (store_items ps) → counts_in qs ≡ counts_in ps
same_counts ps qs a b = λ j. record { shards = a j; stores = b j }

module _ (ps : List Place) (good : AreService ps) (ask : Ask) (lt : index_in ps (place_of ask).0 < length ps) where
  abbrev n : ℕ
  n = (place_of ask).0

  abbrev at : ℕ
  at = index_in ps n

  abbrev desk : Desk
  desk = (compose ps good.in_order).desk

  abbrev roster : Roster
  roster = (compose ps good.in_order).roster

  as_composed : ps ≡ composed desk roster (shard_items ps) (store_items ps)
  as_composed = (compose ps good.in_order).is

  same_roster : rosters.contents_of roster ≡ roster_in ps
  same_roster = sym (ap roster_in as_composed ∙ composed_roster desk roster (shard_items ps) (store_items ps))

  where_it_stands : (w : Place) → w ≡ get_or ps at w → Stands desk roster (shard_items ps) (store_items ps) at w
  where_it_stands w is = stands desk roster (shard_items ps) (store_items ps) at w (subst (λ qs. at < length qs) as_composed lt) (subst (λ qs. w ≡ get_or qs at w) as_composed is)

  -- ---- a shard
  module _ (s s' : Shard) (is : kind.Shard s ≡ get_or ps at (kind.Shard s)) (index : shards.index_of s' ≡ shards.index_of s) where
    abbrev ss : List Shard
    ss = shard_items ps

    stood : (at < length ss) × (s ≡ get_or ss at s)
    stood = where_it_stands (kind.Shard s) is

    view_lt : at < length (map shard_view ss)
    view_lt = let same = length-map ss shard_view in omega (arith, stood.0)

    view_is : shard_view s ≡ get_or (map shard_view ss) at (shard_view s)
    view_is = ap shard_view stood.1 ∙ sym (get_or-map shard_view ss at s (shard_view s) stood.0)

    number_is : shards.index_of s ≡ n
    number_is = number_here ps n (kind.Shard s) lt is

    own_index : shards.index_of s ≡ at
    own_index = index_is (map shard_view ss) good.shards at view_lt (shard_view s) view_is

    here : n ≡ at
    here = sym number_is ∙ own_index

    low : nat_lt n 64 ≡ true
    low = let small = s.small in grind (arith, nat_tests, number_is)

    changed : Shows (set ps at (kind.Shard s')) (set ss at s') (store_items ps) (roster_in ps)
    changed = subst (Shows (set ps at (kind.Shard s')) (set ss at s') (store_items ps)) same_roster
        (shows (set ps at (kind.Shard s')) desk roster (set ss at s') (store_items ps) (ap (λ qs. set qs at (kind.Shard s')) as_composed ∙ set_shard desk roster ss (store_items ps) at s' stood.0))

    pub shard_counts : counts_in (set ps at (kind.Shard s')) ≡ counts_in ps
    shard_counts = same_counts ps (set ps at (kind.Shard s')) (ap length changed.shards ∙ length-set ss at s') (ap length changed.stores)

    views : map shard_view (shard_items (set ps at (kind.Shard s'))) ≡ set (map shard_view ss) at (shard_view s')
    views = ap (map shard_view) changed.shards ∙ map-set shard_view ss at s'

    module _ (actor : Actor) (last : ℕ) where
      abbrev number : ℕ
      number = number_after last (shards.last_of s)

      own_stamp : record { number = number; place = record { 0 = shards.index_of s } } ≡ stamped number ask
      own_stamp = λ j. record { number = number; place = record { 0 = number_is j } }

      serves : serve (held_in ps) actor last ask ≡ after_shard (held_in ps) actor ask number (serve_shard (held_in ps).shard (stamped number ask) ask)
      serves = ap (λ a. serve_in a (nat_lt n 128) (held_in ps) actor ask (number_after last (lasts_in ps n))) low
          ∙ ap (λ l. after_shard (held_in ps) actor ask (number_after last l) (serve_shard (held_in ps).shard (stamped (number_after last l) ask) ask)) (last_here ps n (kind.Shard s) (kind.Shard s') lt is)

      own_contents : shards.contents_of s' ≡ (serve_shard (shards.contents_of s) (record { number = number; place = record { 0 = shards.index_of s } }) ask).contents → shards.contents_of s' ≡ (serve_shard (shards.contents_of s) (stamped number ask) ask).contents
      own_contents h = h ∙ ap (λ (stamp : Stamp). (serve_shard (shards.contents_of s) stamp ask).contents) own_stamp

      own_entry : (entry : Entry) → entry ≡ entry_by actor number ask (serve_shard (shards.contents_of s) (record { number = number; place = record { 0 = shards.index_of s } }) ask) → entry ≡ entry_by actor number ask (serve_shard (held_in ps).shard (stamped number ask) ask)
      own_entry entry h = shard_entry (map shard_view ss) good.shards at view_lt (shard_view s) view_is actor number ask entry here (h ∙ ap (λ (stamp : Stamp). entry_by actor number ask (serve_shard (shards.contents_of s) stamp ask)) own_stamp)

      pub shard_entered : (r : Result Entry ServeFault) → IfOk r (λ entry. entry ≡ entry_by actor number ask (serve_shard (shards.contents_of s) (record { number = number; place = record { 0 = shards.index_of s } }) ask))
          → IfOk r (λ entry. entry ≡ (serve (held_in ps) actor last ask).entry)
      shard_entered (Ok entry) h = own_entry entry h ∙ sym (ap (λ (step : Step). step.entry) serves)
      shard_entered (Err fault) h = tt

      pub shard_held : (r : Result Entry ServeFault) → IfOk r (λ entry. entry ≡ entry_by actor number ask (serve_shard (shards.contents_of s) (record { number = number; place = record { 0 = shards.index_of s } }) ask))
          → OnOk r (shards.contents_of s' ≡ (serve_shard (shards.contents_of s) (record { number = number; place = record { 0 = shards.index_of s } }) ask).contents)
          → IfOk r (λ entry. shards.log_of s' ≡ shards.log_of s ++ entry ∷ []) → OnOk r (shards.last_of s' ≡ number)
          → OnOk r (held_in (set ps at (kind.Shard s')) ≡ (serve (held_in ps) actor last ask).held)
      shard_held (Err fault) entered contents log lasts = tt
      shard_held (Ok entry) entered contents log lasts =
          (λ j. record {
            shard = all j;
            store = all_stores (contents_in (map store_view (changed.stores j)));
            roster = changed.roster j;
            lasts = lasts_step ps n (kind.Shard s) (kind.Shard s') lt is (index ∙ number_is) number lasts j;
            logs = logs_step ps n (kind.Shard s) (kind.Shard s') lt is (index ∙ number_is) entry (entry_by actor number ask (serve_shard (held_in ps).shard (stamped number ask) ask)) log (own_entry entry entered) j;
          })
          ∙ sym (ap (λ (step : Step). step.held) serves)
        where
          all : all_shards (contents_in (map shard_view (shard_items (set ps at (kind.Shard s'))))) ≡ (serve_shard (held_in ps).shard (stamped number ask) ask).contents
          all = ap (λ vs. all_shards (contents_in vs)) views ∙ shard_contents (map shard_view ss) good.shards at view_lt (shard_view s) view_is (shard_view s') number ask here (own_contents contents)

      same_views : shards.shown s' ≡ shards.shown s → map shard_view (shard_items (set ps at (kind.Shard s'))) ≡ map shard_view ss
      same_views e = views ∙ ap (set (map shard_view ss) at) (ap (λ (x : shards.Shown). record { contents = x.contents; log = x.log; last = x.last; index = x.index }) e ∙ view_is) ∙ set-get_or (map shard_view ss) at (shard_view s)

      pub shard_kept : (r : Result Entry ServeFault) → OnErr r (shards.shown s' ≡ shards.shown s) → OnErr r (held_in (set ps at (kind.Shard s')) ≡ held_in ps)
      shard_kept (Ok entry) e = tt
      shard_kept (Err fault) e = λ j. record {
        shard = all_shards (contents_in (same_views e j));
        store = all_stores (contents_in (map store_view (changed.stores j)));
        roster = changed.roster j;
        lasts = lasts_kept ps n (kind.Shard s) (kind.Shard s') lt is (index ∙ number_is) (ap (λ (x : shards.Shown). x.last) e) j;
        logs = logs_kept ps n (kind.Shard s) (kind.Shard s') lt is (index ∙ number_is) (ap (λ (x : shards.Shown). x.log) e) j;
      }

      pub shard_service : (r : Result Entry ServeFault) → OnOk r (shards.contents_of s' ≡ (serve_shard (shards.contents_of s) (record { number = number; place = record { 0 = shards.index_of s } }) ask).contents)
          → OnErr r (shards.shown s' ≡ shards.shown s) → AreService (set ps at (kind.Shard s'))
      shard_service r contents e = record {
        in_order = changed.order;
        some = let same = length-set ss at s' in let some = good.some in subst (λ xs. 1 ≤ length xs) (sym changed.shards) (omega (arith, same, some));
        shards = all r contents e;
        stores = subst (λ ts. AreStores (map store_view ts)) (sym changed.stores) good.stores;
      }
        where
          all : (r : Result Entry ServeFault) → OnOk r (shards.contents_of s' ≡ (serve_shard (shards.contents_of s) (record { number = number; place = record { 0 = shards.index_of s } }) ask).contents)
              → OnErr r (shards.shown s' ≡ shards.shown s) → AreShards (map shard_view (shard_items (set ps at (kind.Shard s'))))
          all (Ok entry) contents e = subst AreShards (sym views) (shards_good (map shard_view ss) good.shards at view_lt (shard_view s) view_is (shard_view s') number ask here (own_contents contents) index)
          all (Err fault) contents e = subst AreShards (sym (same_views e)) good.shards

  -- ---- a store
  module _ (t t' : Store) (is : kind.Store t ≡ get_or ps at (kind.Store t)) (index : stores.index_of t' ≡ stores.index_of t) where
    abbrev ts : List Store
    ts = store_items ps

    stood_store : (j : ℕ) × (at ≡ length (shard_items ps) + j) × (j < length ts) × (t ≡ get_or ts j t)
    stood_store = where_it_stands (kind.Store t) is

    abbrev j : ℕ
    j = stood_store.0

    store_lt : j < length (map store_view ts)
    store_lt = let same = length-map ts store_view in omega (arith, stood_store.2)

    store_is : store_view t ≡ get_or (map store_view ts) j (store_view t)
    store_is = ap store_view stood_store.3 ∙ sym (get_or-map store_view ts j t (store_view t) stood_store.2)

    store_number : 64 + stores.index_of t ≡ n
    store_number = number_here ps n (kind.Store t) lt is

    store_index : stores.index_of t ≡ j
    store_index = store_index_is (map store_view ts) good.stores j store_lt (store_view t) store_is

    store_here : n ≡ 64 + j
    store_here = omega (arith, store_number, store_index)

    high_store : nat_lt n 64 ≡ false
    high_store = grind (arith, nat_tests, store_number)

    low_store : nat_lt n 128 ≡ true
    low_store = let small = t.small in grind (arith, nat_tests, store_number)

    changed_store : Shows (set ps at (kind.Store t')) (shard_items ps) (set ts j t') (roster_in ps)
    changed_store = subst (Shows (set ps at (kind.Store t')) (shard_items ps) (set ts j t')) same_roster
        (shows (set ps at (kind.Store t')) desk roster (shard_items ps) (set ts j t') (ap (λ qs. set qs at (kind.Store t')) as_composed ∙ set_store desk roster (shard_items ps) ts at j t' stood_store.1 stood_store.2))

    pub store_counts : counts_in (set ps at (kind.Store t')) ≡ counts_in ps
    store_counts = same_counts ps (set ps at (kind.Store t')) (ap length changed_store.shards) (ap length changed_store.stores ∙ length-set ts j t')

    store_views : map store_view (store_items (set ps at (kind.Store t'))) ≡ set (map store_view ts) j (store_view t')
    store_views = ap (map store_view) changed_store.stores ∙ map-set store_view ts j t'

    module _ (actor : Actor) (last : ℕ) where
      abbrev number_s : ℕ
      number_s = number_after last (stores.last_of t)

      store_stamp : record { number = number_s; place = record { 0 = 64 + stores.index_of t } } ≡ stamped number_s ask
      store_stamp = λ k. record { number = number_s; place = record { 0 = store_number k } }

      store_serves : serve (held_in ps) actor last ask ≡ after_store (held_in ps) actor ask number_s (serve_store (held_in ps).store (stamped number_s ask) ask)
      store_serves = ap (λ a. serve_in a (nat_lt n 128) (held_in ps) actor ask (number_after last (lasts_in ps n))) high_store
          ∙ ap (λ b. serve_in false b (held_in ps) actor ask (number_after last (lasts_in ps n))) low_store
          ∙ ap (λ l. after_store (held_in ps) actor ask (number_after last l) (serve_store (held_in ps).store (stamped (number_after last l) ask) ask)) (last_here ps n (kind.Store t) (kind.Store t') lt is)

      store_moved : stores.contents_of t' ≡ (serve_store (stores.contents_of t) (record { number = number_s; place = record { 0 = 64 + stores.index_of t } }) ask).contents → stores.contents_of t' ≡ (serve_store (stores.contents_of t) (stamped number_s ask) ask).contents
      store_moved h = h ∙ ap (λ (stamp : Stamp). (serve_store (stores.contents_of t) stamp ask).contents) store_stamp

      store_told : (entry : Entry) → entry ≡ entry_by actor number_s ask (serve_store (stores.contents_of t) (record { number = number_s; place = record { 0 = 64 + stores.index_of t } }) ask) → entry ≡ entry_by actor number_s ask (serve_store (held_in ps).store (stamped number_s ask) ask)
      store_told entry h = store_entry (map store_view ts) good.stores j store_lt (store_view t) store_is actor number_s ask entry store_here (h ∙ ap (λ (stamp : Stamp). entry_by actor number_s ask (serve_store (stores.contents_of t) stamp ask)) store_stamp)

      pub store_entered : (r : Result Entry ServeFault) → IfOk r (λ entry. entry ≡ entry_by actor number_s ask (serve_store (stores.contents_of t) (record { number = number_s; place = record { 0 = 64 + stores.index_of t } }) ask))
          → IfOk r (λ entry. entry ≡ (serve (held_in ps) actor last ask).entry)
      store_entered (Ok entry) h = store_told entry h ∙ sym (ap (λ (step : Step). step.entry) store_serves)
      store_entered (Err fault) h = tt

      pub store_held : (r : Result Entry ServeFault) → IfOk r (λ entry. entry ≡ entry_by actor number_s ask (serve_store (stores.contents_of t) (record { number = number_s; place = record { 0 = 64 + stores.index_of t } }) ask))
          → OnOk r (stores.contents_of t' ≡ (serve_store (stores.contents_of t) (record { number = number_s; place = record { 0 = 64 + stores.index_of t } }) ask).contents)
          → IfOk r (λ entry. stores.log_of t' ≡ stores.log_of t ++ entry ∷ []) → OnOk r (stores.last_of t' ≡ number_s)
          → OnOk r (held_in (set ps at (kind.Store t')) ≡ (serve (held_in ps) actor last ask).held)
      store_held (Err fault) entered contents log lasts = tt
      store_held (Ok entry) entered contents log lasts =
          (λ k. record {
            shard = all_shards (contents_in (map shard_view (changed_store.shards k)));
            store = all k;
            roster = changed_store.roster k;
            lasts = lasts_step ps n (kind.Store t) (kind.Store t') lt is (ap (λ m. 64 + m) index ∙ store_number) number_s lasts k;
            logs = logs_step ps n (kind.Store t) (kind.Store t') lt is (ap (λ m. 64 + m) index ∙ store_number) entry (entry_by actor number_s ask (serve_store (held_in ps).store (stamped number_s ask) ask)) log (store_told entry entered) k;
          })
          ∙ sym (ap (λ (step : Step). step.held) store_serves)
        where
          all : all_stores (contents_in (map store_view (store_items (set ps at (kind.Store t'))))) ≡ (serve_store (held_in ps).store (stamped number_s ask) ask).contents
          all = ap (λ vs. all_stores (contents_in vs)) store_views ∙ store_contents (map store_view ts) good.stores j store_lt (store_view t) store_is (store_view t') number_s ask store_here (store_moved contents)

      same_store_views : t' ≡ t → map store_view (store_items (set ps at (kind.Store t'))) ≡ map store_view ts
      same_store_views e = store_views ∙ ap (set (map store_view ts) j) (ap store_view e ∙ store_is) ∙ set-get_or (map store_view ts) j (store_view t)

      pub store_service : (r : Result Entry ServeFault) → OnOk r (stores.contents_of t' ≡ (serve_store (stores.contents_of t) (record { number = number_s; place = record { 0 = 64 + stores.index_of t } }) ask).contents)
          → OnErr r (t' ≡ t) → AreService (set ps at (kind.Store t'))
      store_service r contents e = record {
        in_order = changed_store.order;
        some = subst (λ xs. 1 ≤ length xs) (sym changed_store.shards) good.some;
        shards = subst (λ xs. AreShards (map shard_view xs)) (sym changed_store.shards) good.shards;
        stores = all r contents e;
      }
        where
          all : (r : Result Entry ServeFault) → OnOk r (stores.contents_of t' ≡ (serve_store (stores.contents_of t) (record { number = number_s; place = record { 0 = 64 + stores.index_of t } }) ask).contents)
              → OnErr r (t' ≡ t) → AreStores (map store_view (store_items (set ps at (kind.Store t'))))
          all (Ok entry) contents e = subst AreStores (sym store_views) (stores_good (map store_view ts) good.stores j store_lt (store_view t) store_is (store_view t') number_s ask store_here (store_moved contents) index)
          all (Err fault) contents e = subst AreStores (sym (same_store_views e)) good.stores

  -- ---- the desk, which leaves all contents
  module _ (d d' : Desk) (is : kind.Desk d ≡ get_or ps at (kind.Desk d)) where
    changed_desk : Shows (set ps at (kind.Desk d')) (shard_items ps) (store_items ps) (roster_in ps)
    changed_desk = let stood = where_it_stands (kind.Desk d) is in subst (Shows (set ps at (kind.Desk d')) (shard_items ps) (store_items ps)) same_roster
        (shows (set ps at (kind.Desk d')) d' roster (shard_items ps) (store_items ps) (ap (λ qs. set qs at (kind.Desk d')) as_composed ∙ set_desk desk d' roster (shard_items ps) (store_items ps) at stood.0))

    pub desk_counts : counts_in (set ps at (kind.Desk d')) ≡ counts_in ps
    desk_counts = same_counts ps (set ps at (kind.Desk d')) (ap length changed_desk.shards) (ap length changed_desk.stores)

    pub desk_service : AreService (set ps at (kind.Desk d'))
    desk_service = record {
      in_order = changed_desk.order;
      some = subst (λ xs. 1 ≤ length xs) (sym changed_desk.shards) good.some;
      shards = subst (λ xs. AreShards (map shard_view xs)) (sym changed_desk.shards) good.shards;
      stores = subst (λ ts. AreStores (map store_view ts)) (sym changed_desk.stores) good.stores;
    }

    module _ (actor : Actor) (last : ℕ) where
      desk_number : 128 ≡ n
      desk_number = number_here ps n (kind.Desk d) lt is

      desk_serves : serve (held_in ps) actor last ask ≡ after_desk (held_in ps) actor ask (number_after last (desks.last_of d)) (serve_desk ask)
      desk_serves =
          let high : nat_lt n 64 ≡ false = grind (arith, nat_tests, desk_number) in
          let higher : nat_lt n 128 ≡ false = grind (arith, nat_tests, desk_number) in
          let is_desk : (n == 128) ≡ true = grind (arith, nat_tests, desk_number) in
          ap (λ a. serve_in a (nat_lt n 128) (held_in ps) actor ask (number_after last (lasts_in ps n))) high
          ∙ ap (λ b. serve_in false b (held_in ps) actor ask (number_after last (lasts_in ps n))) higher
          ∙ ap (λ b. serve_late b (held_in ps) actor ask (number_after last (lasts_in ps n))) is_desk
          ∙ ap (λ l. after_desk (held_in ps) actor ask (number_after last l) (serve_desk ask)) (last_here ps n (kind.Desk d) (kind.Desk d') lt is)

      pub desk_entered : (r : Result Entry ServeFault) → IfOk r (λ entry. entry ≡ entry_by actor (number_after last (desks.last_of d)) ask (serve_desk ask)) → IfOk r (λ entry. entry ≡ (serve (held_in ps) actor last ask).entry)
      desk_entered (Ok entry) h = h ∙ sym (ap (λ (step : Step). step.entry) desk_serves)
      desk_entered (Err fault) h = tt

      pub desk_held : (r : Result Entry ServeFault) → IfOk r (λ entry. entry ≡ entry_by actor (number_after last (desks.last_of d)) ask (serve_desk ask))
          → IfOk r (λ entry. desks.log_of d' ≡ desks.log_of d ++ entry ∷ []) → OnOk r (desks.last_of d' ≡ number_after last (desks.last_of d))
          → OnOk r (held_in (set ps at (kind.Desk d')) ≡ (serve (held_in ps) actor last ask).held)
      desk_held (Err fault) entered log lasts = tt
      desk_held (Ok entry) entered log lasts =
          (λ k. record {
            shard = all_shards (contents_in (map shard_view (changed_desk.shards k)));
            store = all_stores (contents_in (map store_view (changed_desk.stores k)));
            roster = changed_desk.roster k;
            lasts = lasts_step ps n (kind.Desk d) (kind.Desk d') lt is desk_number (number_after last (desks.last_of d)) lasts k;
            logs = logs_step ps n (kind.Desk d) (kind.Desk d') lt is desk_number entry (entry_by actor (number_after last (desks.last_of d)) ask (serve_desk ask)) log entered k;
          })
          ∙ sym (ap (λ (step : Step). step.held) desk_serves)

  -- ---- the roster
  module _ (r r' : Roster) (is : kind.Roster r ≡ get_or ps at (kind.Roster r)) where
    stood_roster : (at ≡ length (shard_items ps) + length (store_items ps) + 1) × (r ≡ roster)
    stood_roster = where_it_stands (kind.Roster r) is

    changed_roster : Shows (set ps at (kind.Roster r')) (shard_items ps) (store_items ps) (rosters.contents_of r')
    changed_roster = shows (set ps at (kind.Roster r')) desk r' (shard_items ps) (store_items ps) (ap (λ qs. set qs at (kind.Roster r')) as_composed ∙ set_roster desk roster r' (shard_items ps) (store_items ps) at stood_roster.0)

    own_clients : rosters.contents_of r ≡ roster_in ps
    own_clients = ap rosters.contents_of stood_roster.1 ∙ same_roster

    pub roster_counts : counts_in (set ps at (kind.Roster r')) ≡ counts_in ps
    roster_counts = same_counts ps (set ps at (kind.Roster r')) (ap length changed_roster.shards) (ap length changed_roster.stores)

    pub roster_service : AreService (set ps at (kind.Roster r'))
    roster_service = record {
      in_order = changed_roster.order;
      some = subst (λ xs. 1 ≤ length xs) (sym changed_roster.shards) good.some;
      shards = subst (λ xs. AreShards (map shard_view xs)) (sym changed_roster.shards) good.shards;
      stores = subst (λ ts. AreStores (map store_view ts)) (sym changed_roster.stores) good.stores;
    }

    module _ (actor : Actor) (last : ℕ) where
      roster_number : 129 ≡ n
      roster_number = number_here ps n (kind.Roster r) lt is

      roster_serves : serve (held_in ps) actor last ask ≡ after_roster (held_in ps) actor ask (number_after last (rosters.last_of r)) (serve_roster (rosters.contents_of r) ask)
      roster_serves =
          let high : nat_lt n 64 ≡ false = grind (arith, nat_tests, roster_number) in
          let higher : nat_lt n 128 ≡ false = grind (arith, nat_tests, roster_number) in
          let no_desk : (n == 128) ≡ false = grind (arith, nat_tests, roster_number) in
          ap (λ a. serve_in a (nat_lt n 128) (held_in ps) actor ask (number_after last (lasts_in ps n))) high
          ∙ ap (λ b. serve_in false b (held_in ps) actor ask (number_after last (lasts_in ps n))) higher
          ∙ ap (λ b. serve_late b (held_in ps) actor ask (number_after last (lasts_in ps n))) no_desk
          ∙ ap (λ l. after_roster (held_in ps) actor ask (number_after last l) (serve_roster (roster_in ps) ask)) (last_here ps n (kind.Roster r) (kind.Roster r') lt is)
          ∙ ap (λ clients. after_roster (held_in ps) actor ask (number_after last (rosters.last_of r)) (serve_roster clients ask)) (sym own_clients)

      pub roster_entered : (o : Result Entry ServeFault) → IfOk o (λ entry. entry ≡ entry_by actor (number_after last (rosters.last_of r)) ask (serve_roster (rosters.contents_of r) ask)) → IfOk o (λ entry. entry ≡ (serve (held_in ps) actor last ask).entry)
      roster_entered (Ok entry) h = h ∙ sym (ap (λ (step : Step). step.entry) roster_serves)
      roster_entered (Err fault) h = tt

      pub roster_held : (o : Result Entry ServeFault) → IfOk o (λ entry. entry ≡ entry_by actor (number_after last (rosters.last_of r)) ask (serve_roster (rosters.contents_of r) ask))
          → OnOk o (rosters.contents_of r' ≡ (serve_roster (rosters.contents_of r) ask).contents)
          → IfOk o (λ entry. rosters.log_of r' ≡ rosters.log_of r ++ entry ∷ []) → OnOk o (rosters.last_of r' ≡ number_after last (rosters.last_of r))
          → OnOk o (held_in (set ps at (kind.Roster r')) ≡ (serve (held_in ps) actor last ask).held)
      roster_held (Err fault) entered contents log lasts = tt
      roster_held (Ok entry) entered contents log lasts =
          (λ k. record {
            shard = all_shards (contents_in (map shard_view (changed_roster.shards k)));
            store = all_stores (contents_in (map store_view (changed_roster.stores k)));
            roster = (changed_roster.roster ∙ contents) k;
            lasts = lasts_step ps n (kind.Roster r) (kind.Roster r') lt is roster_number (number_after last (rosters.last_of r)) lasts k;
            logs = logs_step ps n (kind.Roster r) (kind.Roster r') lt is roster_number entry (entry_by actor (number_after last (rosters.last_of r)) ask (serve_roster (rosters.contents_of r) ask)) log entered k;
          })
          ∙ sym (ap (λ (step : Step). step.held) roster_serves)
