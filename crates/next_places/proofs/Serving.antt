-- What serving an ask makes of all places.
use Rattle.std.proofs.Common.{◌≡◌, ℕ, ◌+◌, ◌<◌, List, [], ◌∷◌, ◌++◌, length, map, set, get_or, true, false, refl, sym, ◌∙◌, ap, subst, arith, Result, Ok, Err}
use Rattle.std.proofs.lemmas.List.{map-set, length-set, length-map, get_or-map, set-get_or}
use Rattle.std.specs.Prelude.{IfOk, OnOk, OnErr, nat_lt, IsTrue, Option, Some, None}
use Rattle.std.specs.Option.{option_map}
use Rattle.std.proofs.lemmas.Bool.Decides.{nat_tests}
use Rattle.next_ids.specs.declared.ids.Actor.{Actor}
use Rattle.next_ids.specs.declared.ids.Stamp.{Stamp}
use Rattle.next_steps.specs.declared.ask.Ask.{Ask}
use Rattle.next_steps.specs.declared.entry.Entry.{Entry}
use Rattle.next_steps.specs.declared.serve_fault.ServeFault.{ServeFault}
use Rattle.next_steps.specs.Answers.{lists}
use Rattle.next_steps.specs.Asks.{place_of, suits}
use Rattle.next_rules.specs.Contents.{Shard as ShardContents, Store as StoreContents, Desk as DeskContents, Roster as RosterContents, Served, entry_by, number_after}
use Rattle.next_rules.specs.Places.{serve_shard}
use Rattle.next_rules.specs.Stores.{serve_store}
use Rattle.next_rules.specs.Desks.{serve_desk, serve_roster}
use Rattle.next_rules.specs.Worlds.{Service, in_shard, in_store, in_desk, in_roster, serve_in, stamped}
use Rattle.next_rules.specs.Worlds as worlds
use Rattle.next_rules.specs.Setups.{has_place, AreCounts}
use Rattle.next_rules.specs.Homes.{all_shards, all_stores}
use Rattle.next_rules.specs.Several.{contents_in, AreShards, AreStores}
use Rattle.next_rules.proofs.Sums.{counts-from_sums}
use Rattle.next_laws_answers.proofs.Shards.{shard-listed, counts_fit}
use Rattle.next_laws_answers.proofs.Stores.{store-listed, desk-listed, roster-listed}
use Rattle.next_shard.specs.declared.shard.Shard.{Shard}
use Rattle.next_shard.specs.Shards as shards
use Rattle.next_store.specs.declared.store.Store.{Store}
use Rattle.next_store.specs.Stores as stores
use Rattle.next_desk.specs.declared.desk.Desk.{Desk}
use Rattle.next_desk.specs.Desks as desks
use Rattle.next_desk.specs.declared.roster.Roster.{Roster}
use Rattle.next_desk.specs.Rosters as rosters
use Rattle.next_places.specs.declared.place.Place.{Place}
use Rattle.next_places.specs.declared.place.Place.TheVariants as kind
use Rattle.next_places.specs.Held.{step_by, stepped, serve_numbered, served, with_entry}
use Rattle.next_places.specs.PlaceViews.{shard_view, store_view, number_of, log_of, last_of}
use Rattle.next_places.specs.PlaceLists.{shard_items, store_items, desk_in, roster_in, index_in, counts_in, are_shards_first, AreService}
use Rattle.next_places.specs.Views.{held_in, service_in}
use Rattle.next_places.proofs.Changing.{number_here, last_here, lasts_step, logs_step, lasts_kept, logs_kept}
use Rattle.next_places.proofs.Composing.{composed, composed_shards, composed_stores, composed_desk, composed_roster, composed_order, set_shard, set_store, set_desk, set_roster, Stands, stands, compose}
use Rattle.next_places.proofs.Finding.{found, there}
use Rattle.next_places.proofs.OneOfSeveral.{index_is, shard_serves, shard_contents, shards_good, store_index_is, store_serves, store_contents, stores_good}

-- a place that is there stands in the list
pub stands_there : (ps : List Place) → AreService ps → (n : ℕ) → IsTrue (has_place (counts_in ps) n) → index_in ps n < length ps
stands_there ps good n h = let is : nat_lt (index_in ps n) (length ps) ≡ true = sym (found ps n) ∙ there ps good n ∙ h in grind (arith, nat_tests)

-- what the list with one place changed has
record Shows (ps : List Place) (ss : List Shard) (ts : List Store) (jobs : DeskContents) (clients : RosterContents) : Type 0 where
  shards : shard_items ps ≡ ss
  stores : store_items ps ≡ ts
  desk : desk_in ps ≡ jobs
  roster : roster_in ps ≡ clients
  order : are_shards_first ps ≡ true

shows : (ps : List Place) (d : Desk) (r : Roster) (ss : List Shard) (ts : List Store) → ps ≡ composed d r ss ts → Shows ps ss ts (desks.contents_of d) (rosters.contents_of r)
shows ps d r ss ts is = record {
  shards = ap shard_items is ∙ composed_shards d r ss ts;
  stores = ap store_items is ∙ composed_stores d r ss ts;
  desk = ap desk_in is ∙ composed_desk d r ss ts;
  roster = ap roster_in is ∙ composed_roster d r ss ts;
  order = ap are_shards_first is ∙ composed_order d r ss ts;
}

same_counts : (ps qs : List Place) → length (shard_items qs) ≡ length (shard_items ps) → length (store_items qs) ≡ length (store_items ps) → counts_in qs ≡ counts_in ps
same_counts ps qs a b = λ j. record { shards = a j; stores = b j }

module _ (ps : List Place) (good : AreService ps) (ask : Ask) (lt : index_in ps (place_of ask).0 < length ps) where
  abbrev n : ℕ
  n = (place_of ask).0

  abbrev at : ℕ
  at = index_in ps n

  abbrev desk : Desk
  desk = (compose ps good.in_order).desk

  abbrev roster : Roster
  roster = (compose ps good.in_order).roster

  as_composed : ps ≡ composed desk roster (shard_items ps) (store_items ps)
  as_composed = (compose ps good.in_order).is

  same_desk : desks.contents_of desk ≡ desk_in ps
  same_desk = sym (ap desk_in as_composed ∙ composed_desk desk roster (shard_items ps) (store_items ps))

  same_roster : rosters.contents_of roster ≡ roster_in ps
  same_roster = sym (ap roster_in as_composed ∙ composed_roster desk roster (shard_items ps) (store_items ps))

  where_it_stands : (w : Place) → w ≡ get_or ps at w → Stands desk roster (shard_items ps) (store_items ps) at w
  where_it_stands w is = stands desk roster (shard_items ps) (store_items ps) at w (subst (λ qs. at < length qs) as_composed lt) (subst (λ qs. w ≡ get_or qs at w) as_composed is)

  -- ---- a place has changed to another of the same number
  module _ (old w : Place) (is : old ≡ get_or ps at old) (here : number_of w ≡ n) where
    pub kept : service_in (set ps at w) ≡ service_in ps → last_of w ≡ last_of old → log_of w ≡ log_of old → held_in (set ps at w) ≡ held_in ps
    kept same last log = λ j. record { service = same j; lasts = lasts_kept ps n old w lt is here last j; logs = logs_kept ps n old w lt is here log j }

    grown : (v : Service) (entry told : Entry) → service_in (set ps at w) ≡ v → log_of w ≡ log_of old ++ entry ∷ [] → entry ≡ told → last_of w ≡ told.number → held_in (set ps at w) ≡ with_entry (held_in ps) n told v
    grown v entry told same log entered last = λ j. record { service = same j; lasts = lasts_step ps n old w lt is here told.number last j; logs = logs_step ps n old w lt is here entry told log entered j }

    module _ (actor : Actor) (last moment : ℕ) where
      serves : served (held_in ps) actor last moment ask ≡ serve_numbered (held_in ps) actor moment ask (number_after last (last_of old))
      serves = ap (λ l. serve_numbered (held_in ps) actor moment ask (number_after last l)) (last_here ps n old w lt is)

      abbrev given : Option (Served Service)
      given = worlds.serve (service_in ps) (stamped (number_after last (last_of old)) ask) moment ask

      -- what it gave is what all places give, and what it has is what they have
      stepped_to : (s : Served Service) → given ≡ Some s → (r : Result Entry ServeFault) → IfOk r (λ entry. entry ≡ entry_by actor (number_after last (last_of old)) moment ask s)
          → OnOk r (service_in (set ps at w) ≡ s.contents) → IfOk r (λ entry. log_of w ≡ log_of old ++ entry ∷ []) → OnOk r (last_of w ≡ number_after last (last_of old))
          → IfOk r (λ entry. served (held_in ps) actor last moment ask ≡ Some (record { entry = entry; held = held_in (set ps at w) }))
      stepped_to s gives (Err fault) entered contents log lasts = tt
      stepped_to s gives (Ok entry) entered contents log lasts =
          serves ∙ ap (stepped (held_in ps) actor ask (number_after last (last_of old)) moment) gives ∙ sym (λ j. Some (record {
            entry = entered j;
            held = grown s.contents entry (entry_by actor (number_after last (last_of old)) moment ask s) contents log entered lasts j;
          }))

      given_some : (s : Served Service) → given ≡ Some s → served (held_in ps) actor last moment ask ≡ Some (step_by (held_in ps) actor ask (number_after last (last_of old)) moment s)
      given_some s gives = serves ∙ ap (stepped (held_in ps) actor ask (number_after last (last_of old)) moment) gives

      given_none : given ≡ None → served (held_in ps) actor last moment ask ≡ None
      given_none gives = serves ∙ ap (stepped (held_in ps) actor ask (number_after last (last_of old)) moment) gives

      never_none : (s : Served Service) → given ≡ Some s → served (held_in ps) actor last moment ask ≡ None → ⊥
      never_none s gives none = let some = given_some s gives in cc

  -- ---- a shard
  module _ (s s' : Shard) (is : kind.Shard s ≡ get_or ps at (kind.Shard s)) (index : shards.index_of s' ≡ shards.index_of s) where
    abbrev ss : List Shard
    ss = shard_items ps

    stood : (at < length ss) × (s ≡ get_or ss at s)
    stood = where_it_stands (kind.Shard s) is

    view_lt : at < length (map shard_view ss)
    view_lt = let same = length-map ss shard_view in omega (arith, stood.0)

    view_is : shard_view s ≡ get_or (map shard_view ss) at (shard_view s)
    view_is = ap shard_view stood.1 ∙ sym (get_or-map shard_view ss at s (shard_view s) stood.0)

    number_is : shards.index_of s ≡ n
    number_is = number_here ps n (kind.Shard s) lt is

    own_index : shards.index_of s ≡ at
    own_index = index_is (map shard_view ss) good.shards at view_lt (shard_view s) view_is

    here : n ≡ at
    here = sym number_is ∙ own_index

    low : nat_lt n 64 ≡ true
    low = let small = s.small in grind (arith, nat_tests, number_is)

    changed : Shows (set ps at (kind.Shard s')) (set ss at s') (store_items ps) (desk_in ps) (roster_in ps)
    changed = subst (λ jobs. Shows (set ps at (kind.Shard s')) (set ss at s') (store_items ps) jobs (roster_in ps)) same_desk
        (subst (Shows (set ps at (kind.Shard s')) (set ss at s') (store_items ps) (desks.contents_of desk)) same_roster
        (shows (set ps at (kind.Shard s')) desk roster (set ss at s') (store_items ps) (ap (λ qs. set qs at (kind.Shard s')) as_composed ∙ set_shard desk roster ss (store_items ps) at s' stood.0)))

    pub shard_counts : counts_in (set ps at (kind.Shard s')) ≡ counts_in ps
    shard_counts = same_counts ps (set ps at (kind.Shard s')) (ap length changed.shards ∙ length-set ss at s') (ap length changed.stores)

    views : map shard_view (shard_items (set ps at (kind.Shard s'))) ≡ set (map shard_view ss) at (shard_view s')
    views = ap (map shard_view) changed.shards ∙ map-set shard_view ss at s'

    same_views : shards.shows s' ≡ shards.shows s → map shard_view (shard_items (set ps at (kind.Shard s'))) ≡ map shard_view ss
    same_views e = views ∙ ap (set (map shard_view ss) at) (ap (λ (x : shards.Shows). record { contents = x.contents; log = x.log; last = x.last; index = x.index }) e ∙ view_is) ∙ set-get_or (map shard_view ss) at (shard_view s)

    pub shard_kept : (r : Result Entry ServeFault) → OnErr r (shards.shows s' ≡ shards.shows s) → OnErr r (held_in (set ps at (kind.Shard s')) ≡ held_in ps)
    shard_kept (Ok entry) e = tt
    shard_kept (Err fault) e =
        kept (kind.Shard s) (kind.Shard s') is (index ∙ number_is)
        (λ j. record { shard = all_shards (contents_in (same_views e j)); store = all_stores (contents_in (map store_view (changed.stores j))); desk = changed.desk j; roster = changed.roster j })
        (ap (λ (x : shards.Shows). x.last) e) (ap (λ (x : shards.Shows). x.log) e)

    module _ (actor : Actor) (last moment : ℕ) where
      abbrev number : ℕ
      number = number_after last (shards.last_of s)

      abbrev own_stamp : Stamp
      own_stamp = record { number = number; place = record { 0 = shards.index_of s } }

      same_stamp : own_stamp ≡ stamped number ask
      same_stamp = λ j. record { number = number; place = record { 0 = number_is j } }

      abbrev one : Served ShardContents
      one = serve_shard (shards.contents_of s) own_stamp moment ask

      abbrev all : Served ShardContents
      all = serve_shard (service_in ps).shard (stamped number ask) moment ask

      gives : worlds.serve (service_in ps) (stamped number ask) moment ask ≡ Some (in_shard (service_in ps) all)
      gives = ap (λ a. serve_in a (nat_lt n 128) (nat_lt n 129) (service_in ps) (stamped number ask) moment ask) low

      own_contents : shards.contents_of s' ≡ one.contents → shards.contents_of s' ≡ (serve_shard (shards.contents_of s) (stamped number ask) moment ask).contents
      own_contents h = h ∙ ap (λ (stamp : Stamp). (serve_shard (shards.contents_of s) stamp moment ask).contents) same_stamp

      told : (entry : Entry) → entry ≡ entry_by actor number moment ask one → entry ≡ entry_by actor number moment ask (in_shard (service_in ps) all)
      told entry h =
          let serves = shard_serves (map shard_view ss) good.shards at view_lt (shard_view s) view_is (stamped number ask) moment ask here here in
          h ∙ ap (λ (stamp : Stamp). entry_by actor number moment ask (serve_shard (shards.contents_of s) stamp moment ask)) same_stamp
          ∙ (λ j. record { actor = actor; number = number; moment = moment; ask = ask; answer = sym serves.0.answer j; moved = sym serves.0.moved j })

      all_told : (r : Result Entry ServeFault) → IfOk r (λ entry. entry ≡ entry_by actor number moment ask one) → IfOk r (λ entry. entry ≡ entry_by actor number moment ask (in_shard (service_in ps) all))
      all_told (Ok entry) h = told entry h
      all_told (Err fault) h = tt

      all_changed : (r : Result Entry ServeFault) → OnOk r (shards.contents_of s' ≡ one.contents) → OnOk r (service_in (set ps at (kind.Shard s')) ≡ (in_shard (service_in ps) all).contents)
      all_changed (Err fault) h = tt
      all_changed (Ok entry) h = λ j. record { shard = shard j; store = all_stores (contents_in (map store_view (changed.stores j))); desk = changed.desk j; roster = changed.roster j }
        where
          shard : all_shards (contents_in (map shard_view (shard_items (set ps at (kind.Shard s'))))) ≡ all.contents
          shard = ap (λ vs. all_shards (contents_in vs)) views ∙ shard_contents (map shard_view ss) good.shards at view_lt (shard_view s) view_is (stamped number ask) moment ask here here (shard_view s') (own_contents h)

      pub shard_step : (r : Result Entry ServeFault) → IfOk r (λ entry. entry ≡ entry_by actor number moment ask one) → OnOk r (shards.contents_of s' ≡ one.contents)
          → IfOk r (λ entry. shards.log_of s' ≡ shards.log_of s ++ entry ∷ []) → OnOk r (shards.last_of s' ≡ number)
          → IfOk r (λ entry. served (held_in ps) actor last moment ask ≡ Some (record { entry = entry; held = held_in (set ps at (kind.Shard s')) }))
      shard_step r entered contents log lasts =
          stepped_to (kind.Shard s) (kind.Shard s') is (index ∙ number_is) actor last moment (in_shard (service_in ps) all) gives r (all_told r entered) (all_changed r contents) log lasts

      pub shard_some : served (held_in ps) actor last moment ask ≡ None → ⊥
      shard_some = never_none (kind.Shard s) (kind.Shard s') is (index ∙ number_is) actor last moment (in_shard (service_in ps) all) gives

      pub shard_lists : IsTrue (suits ask) → (r : Result Entry ServeFault) → IfOk r (λ entry. entry ≡ entry_by actor number moment ask one) → IfOk r (λ entry. IsTrue (lists ask entry.answer))
      shard_lists suit (Err fault) entered = tt
      shard_lists suit (Ok entry) entered =
          let small = s.small in
          let rows = s.within.rows in
          let short = s.journal.short in
          ap (λ (e : Entry). lists ask e.answer) entered
          ∙ shard-listed (shards.contents_of s) own_stamp moment ask (omega (arith, small, number_is)) suit (counts_fit (shards.contents_of s) (counts-from_sums (shards.contents_of s) s.sums) (omega (arith, rows, short)))

      pub shard_service : (r : Result Entry ServeFault) → OnOk r (shards.contents_of s' ≡ one.contents) → OnErr r (shards.shows s' ≡ shards.shows s) → AreService (set ps at (kind.Shard s'))
      shard_service r contents e = record {
        in_order = changed.order;
        counts = subst AreCounts (sym shard_counts) good.counts;
        shards = all_good r contents e;
        stores = subst (λ ts. AreStores (map store_view ts)) (sym changed.stores) good.stores;
      }
        where
          all_good : (r : Result Entry ServeFault) → OnOk r (shards.contents_of s' ≡ one.contents) → OnErr r (shards.shows s' ≡ shards.shows s) → AreShards (map shard_view (shard_items (set ps at (kind.Shard s'))))
          all_good (Ok entry) contents e = subst AreShards (sym views) (shards_good (map shard_view ss) good.shards at view_lt (shard_view s) view_is (stamped number ask) moment ask here here (shard_view s') (own_contents contents) index)
          all_good (Err fault) contents e = subst AreShards (sym (same_views e)) good.shards

  -- ---- a store
  module _ (t t' : Store) (is : kind.Store t ≡ get_or ps at (kind.Store t)) (index : stores.index_of t' ≡ stores.index_of t) where
    abbrev ts : List Store
    ts = store_items ps

    stood_store : (j : ℕ) × (at ≡ length (shard_items ps) + j) × (j < length ts) × (t ≡ get_or ts j t)
    stood_store = where_it_stands (kind.Store t) is

    abbrev j : ℕ
    j = stood_store.0

    store_lt : j < length (map store_view ts)
    store_lt = let same = length-map ts store_view in omega (arith, stood_store.2)

    store_is : store_view t ≡ get_or (map store_view ts) j (store_view t)
    store_is = ap store_view stood_store.3 ∙ sym (get_or-map store_view ts j t (store_view t) stood_store.2)

    store_number : 64 + stores.index_of t ≡ n
    store_number = number_here ps n (kind.Store t) lt is

    store_index : stores.index_of t ≡ j
    store_index = store_index_is (map store_view ts) good.stores j store_lt (store_view t) store_is

    store_here : n ≡ 64 + j
    store_here = omega (arith, store_number, store_index)

    high_store : nat_lt n 64 ≡ false
    high_store = grind (arith, nat_tests, store_number)

    low_store : nat_lt n 128 ≡ true
    low_store = let small = t.small in grind (arith, nat_tests, store_number)

    changed_store : Shows (set ps at (kind.Store t')) (shard_items ps) (set ts j t') (desk_in ps) (roster_in ps)
    changed_store = subst (λ jobs. Shows (set ps at (kind.Store t')) (shard_items ps) (set ts j t') jobs (roster_in ps)) same_desk
        (subst (Shows (set ps at (kind.Store t')) (shard_items ps) (set ts j t') (desks.contents_of desk)) same_roster
        (shows (set ps at (kind.Store t')) desk roster (shard_items ps) (set ts j t') (ap (λ qs. set qs at (kind.Store t')) as_composed ∙ set_store desk roster (shard_items ps) ts at j t' stood_store.1 stood_store.2)))

    pub store_counts : counts_in (set ps at (kind.Store t')) ≡ counts_in ps
    store_counts = same_counts ps (set ps at (kind.Store t')) (ap length changed_store.shards) (ap length changed_store.stores ∙ length-set ts j t')

    store_views : map store_view (store_items (set ps at (kind.Store t'))) ≡ set (map store_view ts) j (store_view t')
    store_views = ap (map store_view) changed_store.stores ∙ map-set store_view ts j t'

    same_store_views : t' ≡ t → map store_view (store_items (set ps at (kind.Store t'))) ≡ map store_view ts
    same_store_views e = store_views ∙ ap (set (map store_view ts) j) (ap store_view e ∙ store_is) ∙ set-get_or (map store_view ts) j (store_view t)

    module _ (actor : Actor) (last moment : ℕ) where
      abbrev number_s : ℕ
      number_s = number_after last (stores.last_of t)

      abbrev stamp_s : Stamp
      stamp_s = record { number = number_s; place = record { 0 = 64 + stores.index_of t } }

      same_stamp_s : stamp_s ≡ stamped number_s ask
      same_stamp_s = λ k. record { number = number_s; place = record { 0 = store_number k } }

      abbrev one_s : Served StoreContents
      one_s = serve_store (stores.contents_of t) stamp_s moment ask

      abbrev all_s : Served StoreContents
      all_s = serve_store (service_in ps).store (stamped number_s ask) moment ask

      gives_s : worlds.serve (service_in ps) (stamped number_s ask) moment ask ≡ Some (in_store (service_in ps) all_s)
      gives_s = ap (λ a. serve_in a (nat_lt n 128) (nat_lt n 129) (service_in ps) (stamped number_s ask) moment ask) high_store
          ∙ ap (λ b. serve_in false b (nat_lt n 129) (service_in ps) (stamped number_s ask) moment ask) low_store

      store_moved : stores.contents_of t' ≡ one_s.contents → stores.contents_of t' ≡ (serve_store (stores.contents_of t) (stamped number_s ask) moment ask).contents
      store_moved h = h ∙ ap (λ (stamp : Stamp). (serve_store (stores.contents_of t) stamp moment ask).contents) same_stamp_s

      told_s : (r : Result Entry ServeFault) → IfOk r (λ entry. entry ≡ entry_by actor number_s moment ask one_s) → IfOk r (λ entry. entry ≡ entry_by actor number_s moment ask (in_store (service_in ps) all_s))
      told_s (Err fault) h = tt
      told_s (Ok entry) h =
          let serves = store_serves (map store_view ts) good.stores j store_lt (store_view t) store_is (stamped number_s ask) moment ask store_here store_here in
          h ∙ ap (λ (stamp : Stamp). entry_by actor number_s moment ask (serve_store (stores.contents_of t) stamp moment ask)) same_stamp_s
          ∙ (λ k. record { actor = actor; number = number_s; moment = moment; ask = ask; answer = sym serves.0.answer k; moved = sym serves.0.moved k })

      changed_s : (r : Result Entry ServeFault) → OnOk r (stores.contents_of t' ≡ one_s.contents) → OnOk r (service_in (set ps at (kind.Store t')) ≡ (in_store (service_in ps) all_s).contents)
      changed_s (Err fault) h = tt
      changed_s (Ok entry) h = λ k. record { shard = all_shards (contents_in (map shard_view (changed_store.shards k))); store = store k; desk = changed_store.desk k; roster = changed_store.roster k }
        where
          store : all_stores (contents_in (map store_view (store_items (set ps at (kind.Store t'))))) ≡ all_s.contents
          store = ap (λ vs. all_stores (contents_in vs)) store_views ∙ store_contents (map store_view ts) good.stores j store_lt (store_view t) store_is (stamped number_s ask) moment ask store_here store_here (store_view t') (store_moved h)

      pub store_step : (r : Result Entry ServeFault) → IfOk r (λ entry. entry ≡ entry_by actor number_s moment ask one_s) → OnOk r (stores.contents_of t' ≡ one_s.contents)
          → IfOk r (λ entry. stores.log_of t' ≡ stores.log_of t ++ entry ∷ []) → OnOk r (stores.last_of t' ≡ number_s)
          → IfOk r (λ entry. served (held_in ps) actor last moment ask ≡ Some (record { entry = entry; held = held_in (set ps at (kind.Store t')) }))
      store_step r entered contents log lasts =
          stepped_to (kind.Store t) (kind.Store t') is (ap (λ m. 64 + m) index ∙ store_number) actor last moment (in_store (service_in ps) all_s) gives_s r (told_s r entered) (changed_s r contents) log lasts

      pub store_some : served (held_in ps) actor last moment ask ≡ None → ⊥
      store_some = never_none (kind.Store t) (kind.Store t') is (ap (λ m. 64 + m) index ∙ store_number) actor last moment (in_store (service_in ps) all_s) gives_s

      pub store_lists : IsTrue (suits ask) → (r : Result Entry ServeFault) → IfOk r (λ entry. entry ≡ entry_by actor number_s moment ask one_s) → IfOk r (λ entry. IsTrue (lists ask entry.answer))
      store_lists suit (Err fault) entered = tt
      store_lists suit (Ok entry) entered =
          let small = t.small in
          ap (λ (e : Entry). lists ask e.answer) entered ∙ store-listed (stores.contents_of t) stamp_s moment ask (omega (arith, store_number)) (omega (arith, store_number, small)) suit

      pub store_service : (r : Result Entry ServeFault) → OnOk r (stores.contents_of t' ≡ one_s.contents) → OnErr r (t' ≡ t) → AreService (set ps at (kind.Store t'))
      store_service r contents e = record {
        in_order = changed_store.order;
        counts = subst AreCounts (sym store_counts) good.counts;
        shards = subst (λ xs. AreShards (map shard_view xs)) (sym changed_store.shards) good.shards;
        stores = all_good r contents e;
      }
        where
          all_good : (r : Result Entry ServeFault) → OnOk r (stores.contents_of t' ≡ one_s.contents) → OnErr r (t' ≡ t) → AreStores (map store_view (store_items (set ps at (kind.Store t'))))
          all_good (Ok entry) contents e = subst AreStores (sym store_views) (stores_good (map store_view ts) good.stores j store_lt (store_view t) store_is (stamped number_s ask) moment ask store_here store_here (store_view t') (store_moved contents) index)
          all_good (Err fault) contents e = subst AreStores (sym (same_store_views e)) good.stores

  -- ---- the desk
  module _ (d d' : Desk) (is : kind.Desk d ≡ get_or ps at (kind.Desk d)) where
    stood_desk : (at ≡ length (shard_items ps) + length (store_items ps)) × (d ≡ desk)
    stood_desk = where_it_stands (kind.Desk d) is

    changed_desk : Shows (set ps at (kind.Desk d')) (shard_items ps) (store_items ps) (desks.contents_of d') (roster_in ps)
    changed_desk = subst (Shows (set ps at (kind.Desk d')) (shard_items ps) (store_items ps) (desks.contents_of d')) same_roster
        (shows (set ps at (kind.Desk d')) d' roster (shard_items ps) (store_items ps) (ap (λ qs. set qs at (kind.Desk d')) as_composed ∙ set_desk desk d' roster (shard_items ps) (store_items ps) at stood_desk.0))

    own_jobs : desks.contents_of d ≡ desk_in ps
    own_jobs = ap desks.contents_of stood_desk.1 ∙ same_desk

    pub desk_counts : counts_in (set ps at (kind.Desk d')) ≡ counts_in ps
    desk_counts = same_counts ps (set ps at (kind.Desk d')) (ap length changed_desk.shards) (ap length changed_desk.stores)

    pub desk_service : AreService (set ps at (kind.Desk d'))
    desk_service = record {
      in_order = changed_desk.order;
      counts = subst AreCounts (sym desk_counts) good.counts;
      shards = subst (λ xs. AreShards (map shard_view xs)) (sym changed_desk.shards) good.shards;
      stores = subst (λ ts. AreStores (map store_view ts)) (sym changed_desk.stores) good.stores;
    }

    desk_number : 128 ≡ n
    desk_number = number_here ps n (kind.Desk d) lt is

    module _ (actor : Actor) (last moment : ℕ) where
      abbrev number_d : ℕ
      number_d = number_after last (desks.last_of d)

      gives_d : worlds.serve (service_in ps) (stamped number_d ask) moment ask ≡ in_desk (service_in ps) (serve_desk (desks.contents_of d) ask)
      gives_d =
          let high : nat_lt n 64 ≡ false = grind (arith, nat_tests, desk_number) in
          let higher : nat_lt n 128 ≡ false = grind (arith, nat_tests, desk_number) in
          let is_desk : nat_lt n 129 ≡ true = grind (arith, nat_tests, desk_number) in
          ap (λ a. serve_in a (nat_lt n 128) (nat_lt n 129) (service_in ps) (stamped number_d ask) moment ask) high
          ∙ ap (λ b. serve_in false b (nat_lt n 129) (service_in ps) (stamped number_d ask) moment ask) higher
          ∙ ap (λ b. serve_in false false b (service_in ps) (stamped number_d ask) moment ask) is_desk
          ∙ ap (λ jobs. in_desk (service_in ps) (serve_desk jobs ask)) (sym own_jobs)

      abbrev one_d : Served DeskContents → Served Service
      one_d s = record { answer = s.answer; contents = record (service_in ps) { desk = s.contents }; moved = s.moved }

      pub desk_step : (r : Result Entry ServeFault) → IfOk r (λ entry. Some entry ≡ option_map (entry_by actor number_d moment ask) (serve_desk (desks.contents_of d) ask))
          → OnOk r (Some (desks.contents_of d') ≡ option_map (λ (s : Served DeskContents). s.contents) (serve_desk (desks.contents_of d) ask))
          → IfOk r (λ entry. desks.log_of d' ≡ desks.log_of d ++ entry ∷ []) → OnOk r (desks.last_of d' ≡ number_d)
          → IfOk r (λ entry. served (held_in ps) actor last moment ask ≡ Some (record { entry = entry; held = held_in (set ps at (kind.Desk d')) }))
      desk_step r entered contents log lasts = by_served (serve_desk (desks.contents_of d) ask) refl r entered contents log lasts
        where
          changed_d : (s : Served DeskContents) → desks.contents_of d' ≡ s.contents → service_in (set ps at (kind.Desk d')) ≡ (one_d s).contents
          changed_d s h = λ k. record {
            shard = all_shards (contents_in (map shard_view (changed_desk.shards k)));
            store = all_stores (contents_in (map store_view (changed_desk.stores k)));
            desk = (changed_desk.desk ∙ h) k;
            roster = changed_desk.roster k;
          }

          by_served : (o : Option (Served DeskContents)) → serve_desk (desks.contents_of d) ask ≡ o → (r : Result Entry ServeFault) → IfOk r (λ entry. Some entry ≡ option_map (entry_by actor number_d moment ask) o)
              → OnOk r (Some (desks.contents_of d') ≡ option_map (λ (s : Served DeskContents). s.contents) o)
              → IfOk r (λ entry. desks.log_of d' ≡ desks.log_of d ++ entry ∷ []) → OnOk r (desks.last_of d' ≡ number_d)
              → IfOk r (λ entry. served (held_in ps) actor last moment ask ≡ Some (record { entry = entry; held = held_in (set ps at (kind.Desk d')) }))
          by_served o e (Err fault) entered contents log lasts = tt
          by_served None e (Ok entry) entered contents log lasts = absurd (cc)
          by_served (Some s) e (Ok entry) entered contents log lasts =
              let told : entry ≡ entry_by actor number_d moment ask s = cc in
              let made : desks.contents_of d' ≡ s.contents = cc in
              stepped_to (kind.Desk d) (kind.Desk d') is desk_number actor last moment (one_d s) (gives_d ∙ ap (in_desk (service_in ps)) e) (Ok entry) told (changed_d s made) log lasts

      -- the desk has nothing to tell exactly where all places have no step
      pub desk_none : (serve_desk (desks.contents_of d) ask ≡ None → served (held_in ps) actor last moment ask ≡ None) × (served (held_in ps) actor last moment ask ≡ None → serve_desk (desks.contents_of d) ask ≡ None)
      desk_none = (
        (λ e. given_none (kind.Desk d) (kind.Desk d') is desk_number actor last moment (gives_d ∙ ap (in_desk (service_in ps)) e)),
        (λ none. by_served (serve_desk (desks.contents_of d) ask) refl none),
      )
        where
          by_served : (o : Option (Served DeskContents)) → serve_desk (desks.contents_of d) ask ≡ o → served (held_in ps) actor last moment ask ≡ None → o ≡ None
          by_served None e none = refl
          by_served (Some s) e none = absurd (never_none (kind.Desk d) (kind.Desk d') is desk_number actor last moment (one_d s) (gives_d ∙ ap (in_desk (service_in ps)) e) none)

      pub desk_lists : IsTrue (suits ask) → (r : Result Entry ServeFault) → IfOk r (λ entry. Some entry ≡ option_map (entry_by actor number_d moment ask) (serve_desk (desks.contents_of d) ask)) → IfOk r (λ entry. IsTrue (lists ask entry.answer))
      desk_lists suit r entered = by_served (serve_desk (desks.contents_of d) ask) refl r entered
        where
          by_served : (o : Option (Served DeskContents)) → serve_desk (desks.contents_of d) ask ≡ o → (r : Result Entry ServeFault) → IfOk r (λ entry. Some entry ≡ option_map (entry_by actor number_d moment ask) o) → IfOk r (λ entry. IsTrue (lists ask entry.answer))
          by_served o e (Err fault) entered = tt
          by_served None e (Ok entry) entered = absurd (cc)
          by_served (Some s) e (Ok entry) entered =
              let told : entry ≡ entry_by actor number_d moment ask s = cc in
              ap (λ (x : Entry). lists ask x.answer) told ∙ desk-listed (desks.contents_of d) s ask (sym desk_number) suit e

  -- ---- the roster
  module _ (r r' : Roster) (is : kind.Roster r ≡ get_or ps at (kind.Roster r)) where
    stood_roster : (at ≡ length (shard_items ps) + length (store_items ps) + 1) × (r ≡ roster)
    stood_roster = where_it_stands (kind.Roster r) is

    changed_roster : Shows (set ps at (kind.Roster r')) (shard_items ps) (store_items ps) (desk_in ps) (rosters.contents_of r')
    changed_roster = subst (λ jobs. Shows (set ps at (kind.Roster r')) (shard_items ps) (store_items ps) jobs (rosters.contents_of r')) same_desk
        (shows (set ps at (kind.Roster r')) desk r' (shard_items ps) (store_items ps) (ap (λ qs. set qs at (kind.Roster r')) as_composed ∙ set_roster desk roster r' (shard_items ps) (store_items ps) at stood_roster.0))

    own_clients : rosters.contents_of r ≡ roster_in ps
    own_clients = ap rosters.contents_of stood_roster.1 ∙ same_roster

    pub roster_counts : counts_in (set ps at (kind.Roster r')) ≡ counts_in ps
    roster_counts = same_counts ps (set ps at (kind.Roster r')) (ap length changed_roster.shards) (ap length changed_roster.stores)

    pub roster_service : AreService (set ps at (kind.Roster r'))
    roster_service = record {
      in_order = changed_roster.order;
      counts = subst AreCounts (sym roster_counts) good.counts;
      shards = subst (λ xs. AreShards (map shard_view xs)) (sym changed_roster.shards) good.shards;
      stores = subst (λ ts. AreStores (map store_view ts)) (sym changed_roster.stores) good.stores;
    }

    roster_number : 129 ≡ n
    roster_number = number_here ps n (kind.Roster r) lt is

    module _ (actor : Actor) (last moment : ℕ) where
      abbrev number_r : ℕ
      number_r = number_after last (rosters.last_of r)

      abbrev one_r : Served RosterContents
      one_r = serve_roster (rosters.contents_of r) ask

      gives_r : worlds.serve (service_in ps) (stamped number_r ask) moment ask ≡ Some (in_roster (service_in ps) one_r)
      gives_r =
          let high : nat_lt n 64 ≡ false = grind (arith, nat_tests, roster_number) in
          let higher : nat_lt n 128 ≡ false = grind (arith, nat_tests, roster_number) in
          let no_desk : nat_lt n 129 ≡ false = grind (arith, nat_tests, roster_number) in
          ap (λ a. serve_in a (nat_lt n 128) (nat_lt n 129) (service_in ps) (stamped number_r ask) moment ask) high
          ∙ ap (λ b. serve_in false b (nat_lt n 129) (service_in ps) (stamped number_r ask) moment ask) higher
          ∙ ap (λ b. serve_in false false b (service_in ps) (stamped number_r ask) moment ask) no_desk
          ∙ ap (λ clients. Some (in_roster (service_in ps) (serve_roster clients ask))) (sym own_clients)

      changed_r : (o : Result Entry ServeFault) → OnOk o (rosters.contents_of r' ≡ one_r.contents) → OnOk o (service_in (set ps at (kind.Roster r')) ≡ (in_roster (service_in ps) one_r).contents)
      changed_r (Err fault) h = tt
      changed_r (Ok entry) h = λ k. record {
        shard = all_shards (contents_in (map shard_view (changed_roster.shards k)));
        store = all_stores (contents_in (map store_view (changed_roster.stores k)));
        desk = changed_roster.desk k;
        roster = (changed_roster.roster ∙ h) k;
      }

      told_r : (o : Result Entry ServeFault) → IfOk o (λ entry. entry ≡ entry_by actor number_r moment ask one_r) → IfOk o (λ entry. entry ≡ entry_by actor number_r moment ask (in_roster (service_in ps) one_r))
      told_r (Err fault) h = tt
      told_r (Ok entry) h = h

      pub roster_step : (o : Result Entry ServeFault) → IfOk o (λ entry. entry ≡ entry_by actor number_r moment ask one_r) → OnOk o (rosters.contents_of r' ≡ one_r.contents)
          → IfOk o (λ entry. rosters.log_of r' ≡ rosters.log_of r ++ entry ∷ []) → OnOk o (rosters.last_of r' ≡ number_r)
          → IfOk o (λ entry. served (held_in ps) actor last moment ask ≡ Some (record { entry = entry; held = held_in (set ps at (kind.Roster r')) }))
      roster_step o entered contents log lasts =
          stepped_to (kind.Roster r) (kind.Roster r') is roster_number actor last moment (in_roster (service_in ps) one_r) gives_r o (told_r o entered) (changed_r o contents) log lasts

      pub roster_some : served (held_in ps) actor last moment ask ≡ None → ⊥
      roster_some = never_none (kind.Roster r) (kind.Roster r') is roster_number actor last moment (in_roster (service_in ps) one_r) gives_r

      pub roster_lists : IsTrue (suits ask) → (o : Result Entry ServeFault) → IfOk o (λ entry. entry ≡ entry_by actor number_r moment ask one_r) → IfOk o (λ entry. IsTrue (lists ask entry.answer))
      roster_lists suit (Err fault) entered = tt
      roster_lists suit (Ok entry) entered = ap (λ (e : Entry). lists ask e.answer) entered ∙ roster-listed (rosters.contents_of r) ask (sym roster_number) suit
