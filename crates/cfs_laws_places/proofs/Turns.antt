-- Each turn keeps what holds of every world, and of its moves.
use Rattle.std.proofs.Common.{◌≡◌, ◌≢◌, ℕ, ◌+◌, ◌*◌, ◌%◌, ◌≤◌, ◌<◌, List, [], ◌∷◌, Bool, true, false, cond, refl, sym, ◌∙◌, ap, subst, arith, inl, inr}
use Rattle.std.specs.Prelude.{◌||◌, ◌==◌, Option, Some, None, nat_lt}
use Rattle.std.specs.Option.{option_map}
use Rattle.std.proofs.lemmas.Bool.Decides.{nat_tests}
use Rattle.std.proofs.lemmas.Nat.{mod_below}
use Rattle.std.specs.FinMap.{get, insert, remove}
use Rattle.cfs_ids.specs.declared.ids.DirId.{DirId}
use Rattle.cfs_ids.specs.declared.ids.FileId.{FileId}
use Rattle.cfs_ids.specs.declared.ids.Client.{Client}
use Rattle.cfs_ids.specs.declared.ids.PlaceNo.{PlaceNo}
use Rattle.cfs_ids.specs.declared.ids.Stamp.{Stamp}
use Rattle.cfs_ids.specs.declared.ids.Node.{Node}
use Rattle.cfs_ids.specs.declared.ids.Node.TheVariants.{Dir, File}
use Rattle.cfs_ids.specs.declared.errno.Errno.{Errno}
use Rattle.cfs_ids.specs.declared.call.Call.TheVariants.{Lookup, List as ListCall, Create, Mkdir}
use Rattle.cfs_ids.specs.declared.call.Reply.{Reply}
use Rattle.cfs_ids.specs.declared.call.Reply.TheVariants.{Moved as MovedReply, Node as NodeReply}
use Rattle.cfs_ids.specs.Maps.{Numbers, row_key}
use Rattle.cfs_ids.specs.Namespace.{answer, after}
use Rattle.cfs_steps.specs.declared.contents.Row.{Row}
use Rattle.cfs_steps.specs.declared.contents.DirRec.{DirRec}
use Rattle.cfs_steps.specs.declared.contents.FileRec.{FileRec}
use Rattle.cfs_steps.specs.declared.ask.Ask.{Ask}
use Rattle.cfs_steps.specs.declared.ask.Ask.TheVariants.{Read, List as ListAsk, Insert, Put, PutDir, Settle, TakeBack}
use Rattle.cfs_steps.specs.declared.answer.Answer.{Answer}
use Rattle.cfs_steps.specs.declared.answer.Answer.TheVariants.{NoDir, Exists, Done}
use Rattle.cfs_steps.specs.declared.entry.Entry.{Entry}
use Rattle.cfs_steps.specs.declared.moves.Moved.{Moved}
use Rattle.cfs_steps.specs.declared.moves.Moved.TheVariants.{Move}
use Rattle.cfs_steps.specs.declared.call_done.CallDone.{CallDone}
use Rattle.cfs_steps.specs.Asks.{place_of, home_of}
use Rattle.cfs_steps.specs.Phases.{Phase, Asking, Inserting, Settling, TakingBack, Finished, heard, maker, has_steps, shard_place, store_place}
use Rattle.cfs_rules.specs.Places.{Shard, Store, Served, made_at, number_after, with_row, with_recs, inserted, settled, settled_dir, taken_back, taken_back_dir, put_file, put_dir, new_file, new_dir, read_row, list_rows, unmoved, serve_free, serve_store}
use Rattle.cfs_rules.specs.Worlds.{World, Plan, Counts, AreCounts, IsCount, Progress, client_of, entry_of, set_last, stamped, after_shard, after_store, step, turn_of, turn, run_of}
use Rattle.cfs_rules.specs.Trees.{tree, is_shown, directory_of, facts_of}
use Rattle.cfs_rules.specs.Facts.{IsAllowed, after_moved, space, Unlocked}
use Rattle.cfs_rules.proofs.Locks.{serve_shard-unlocked, turn-unlocked}
use Rattle.cfs_rules.proofs.Empties.{no_children, no_subdirs}
use Rattle.cfs_laws_places.specs.Turns.{GrowsByOne}
use Rattle.cfs_laws_places.proofs.Invariant.{owner_at, number_of, is_named_node, Owns, MayInsert, PhaseHolds, CurrentHolds, PlacesHold, Follows, Holds, Past, Keeps, follows_keep, clients_keep, get-insert_same, get-insert_other, get-remove_other}
use Rattle.cfs_laws_places.proofs.Nodes.{named_of_row, two_nodes, unshown, no_rows_in}
use Rattle.cfs_laws_places.proofs.Plans.{TellsShown, PhaseReached, phase_holds}
use Rattle.cfs_laws_places.proofs.Changes.{Replaces, replaced_others, replaced_places, raise, raised, last_set, insert_places, insert_others, insert_own}
use Rattle.cfs_rules.proofs.TreeLookups.{get-tree_dirs, get-tree_files}
use Rattle.cfs_laws_places.proofs.Trees.{stays_shown, dirs_alike, dirs-with_file, dirs-with_dir, files-with_file, files-with_dir, files-put, files-settle, files-take_back}
use Rattle.cfs_laws_places.proofs.Told.{make_told}
use Rattle.cfs_laws_places.proofs.Records.{set_file, cut_file, set_dir, cut_dir}

-- ---- the place of an ask, and the home of what is made there
below_64 : (n : ℕ) → n < 64 → nat_lt n 64 ≡ true
below_64 n low = grind (arith, nat_tests, low)

not_below_64 : (n : ℕ) → nat_lt (64 + n) 64 ≡ false
not_below_64 n = grind (arith, nat_tests)

below_128 : (n : ℕ) → n < 64 → nat_lt (64 + n) 128 ≡ true
below_128 n low = grind (arith, nat_tests, low)

low_part : (n i : ℕ) → i < 64 → (64 * n + i) % 64 ≡ i
low_part n i low = omega arith

home_dir : (n i : ℕ) → i < 64 → (64 * n + i % 64) % 64 ≡ i
home_dir n i low = omega arith

home_file : (n i : ℕ) → i < 64 → 64 + (64 * n + (64 + i) % 64) % 64 ≡ 64 + i
home_file n i low = omega arith

has_dir : (shard : Shard) (store : Store) (d : ℕ) (o : Option Client) → owner_at shard store (Dir (record { 0 = d })) ≡ Some o → (r : DirRec) × (get shard.recs d ≡ Some r)
has_dir shard store d o e = by_rec (get shard.recs d) refl e
  where
    by_rec : (q : Option DirRec) → get shard.recs d ≡ q → option_map (λ (r : DirRec). r.owner) q ≡ Some o → (r : DirRec) × (get shard.recs d ≡ Some r)
    by_rec None is e = cc
    by_rec (Some r) is e = (r, is)

-- a directory of the tree has a record
pub shown_has : (shard : Shard) (store : Store) (lasts : ℕ → ℕ) → PlacesHold shard store lasts → (d : ℕ) → is_shown shard d ≡ true → (r : DirRec) × (get shard.recs d ≡ Some r)
shown_has shard store lasts h d shown = by_test (d == 0) refl shown
  where
    by_test : (b : Bool) → (d == 0) ≡ b → (b || is_named_node shard (Dir (record { 0 = d }))) ≡ true → (r : DirRec) × (get shard.recs d ≡ Some r)
    by_test true t e = let root : d ≡ 0 = grind (arith, nat_tests) in rw root (has_dir shard store 0 None h.root)
    by_test false t e = let has = h.named (Dir (record { 0 = d })) e in has_dir shard store d has.0 has.1

-- ---- a step, by what it makes of the places
pub record Next (w w' : World) : Type 0 where
  pub holds : Holds w'
  pub past : Past w → Past w'
  pub grows : GrowsByOne w w'

past_step : (shard : Shard) (store : Store) (run : List (PlaceNo × Entry)) (moved : Option Moved) (after : Shard) (after_store : Store)
    → tree shard store ≡ space run → tree after after_store ≡ after_moved (tree shard store) moved → tree after after_store ≡ after_moved (space run) moved
past_step shard store run moved after after_store same to = to ∙ ap (λ n. after_moved n moved) same

may_step : (shard : Shard) (store : Store) (run : List (PlaceNo × Entry)) (moved : Option Moved) → tree shard store ≡ space run → IsAllowed (tree shard store) moved → IsAllowed (space run) moved
may_step shard store run moved same may = subst (λ n. IsAllowed n moved) same may

-- a step that leaves the places as they are
quiet : (shard : Shard) (store : Store) (lasts : ℕ → ℕ) (place number c : ℕ) → lasts place < number → PlacesHold shard store lasts → Keeps shard shard store store (set_last lasts place number) c None
quiet shard store lasts place number c later h = record { places = raise shard store lasts (set_last lasts place number) (raised lasts place number later) h; shows = λ d s. s; others = λ i d o x. x; to = refl; may = tt }

-- ---- a node is put
module _ (shard : Shard) (store : Store) (lasts : ℕ → ℕ) (h : PlacesHold shard store lasts) (at : Stamp) (later : lasts at.place.0 < at.number) where
  fresh : (node : Node) → number_of node ≡ made_at at → (home_of node).0 ≡ at.place.0 → owner_at shard store node ≡ None
  fresh node is home = by_owner (owner_at shard store node) refl
    where
      by_owner : (o : Option (Option Client)) → owner_at shard store node ≡ o → o ≡ None
      by_owner None e = refl
      by_owner (Some owner) e =
          let low = h.known node owner e in
          let here : lasts (home_of node).0 ≡ lasts at.place.0 = ap lasts home in
          absurd (omega arith)

  unnamed : (node : Node) → owner_at shard store node ≡ None → is_named_node shard node ≡ false
  unnamed node none = by_test (is_named_node shard node) refl
    where
      by_test : (b : Bool) → is_named_node shard node ≡ b → b ≡ false
      by_test true e = let has = h.named node e in let there = has.1 in cc
      by_test false e = refl

  -- the others own other nodes, and the new one has a number of this step
  put_keeps : (c : ℕ) (recs : Numbers DirRec) (store' : Store) (node : Node) (owner : Option Client) → Replaces shard store recs store' node (Some owner)
      → number_of node ≡ made_at at → (home_of node).0 ≡ at.place.0 → tree (with_recs shard recs) store' ≡ tree shard store
      → Keeps shard (with_recs shard recs) store store' (set_last lasts at.place.0 at.number) c None
  put_keeps c recs store' node owner r is home same =
      let none = fresh node is home in
      record {
        places = replaced_places shard store recs store' node (Some owner) r lasts (set_last lasts at.place.0 at.number) (raised lasts at.place.0 at.number later) h
            (λ e. cc) (λ e. (owner, refl))
            (λ o e. let new : set_last lasts at.place.0 at.number (home_of node).0 ≡ at.number = ap (set_last lasts at.place.0 at.number) home ∙ last_set lasts at.place.0 at.number in omega arith);
        shows = λ d s. s;
        others = λ i differ o x. replaced_others shard store recs store' node (Some owner) r i (λ y named owns same. let there : owner_at shard store node ≡ Some (Some (client_of i)) = ap (owner_at shard store) (sym same) ∙ owns.owner in cc) o x;
        to = same;
        may = tt;
      }

-- ---- the record of a client's own node changes, or goes
own_keeps : (shard : Shard) (store : Store) (lasts : ℕ → ℕ) (h : PlacesHold shard store lasts) (place number c : ℕ) → lasts place < number
    → (recs : Numbers DirRec) (store' : Store) (node : Node) (named : Bool) (o : Option (Option Client)) → Replaces shard store recs store' node o → Owns shard store c node named
    → (named ≡ true → (owner : Option Client) × (o ≡ Some owner)) → tree (with_recs shard recs) store' ≡ tree shard store
    → Keeps shard (with_recs shard recs) store store' (set_last lasts place number) c None
own_keeps shard store lasts h place number c later recs store' node named o r owns stays same = record {
  places = replaced_places shard store recs store' node o r lasts (set_last lasts place number) up h
      (λ e. let own = owns.owner in cc) (λ e. stays (sym owns.name ∙ e))
      (λ owner e. let low = h.known node (Some (client_of c)) owns.owner in let more = up (home_of node).0 in omega arith);
  shows = λ d s. s;
  others = λ i differ p x. replaced_others shard store recs store' node o r i (λ y b other. two_nodes shard store i c y node b named other owns differ) p x;
  to = same;
  may = tt;
}
  where
    up : (p : ℕ) → lasts p ≤ set_last lasts place number p
    up = raised lasts place number later

owned_file : (shard : Shard) (store : Store) (c f : ℕ) (named : Bool) → Owns shard store c (File (record { 0 = f })) named → (r : FileRec) × ((get store f ≡ Some r) × (r.owner ≡ Some (client_of c)))
owned_file shard store c f named owns = by_rec (get store f) refl owns.owner
  where
    by_rec : (o : Option FileRec) → get store f ≡ o → option_map (λ (r : FileRec). r.owner) o ≡ Some (Some (client_of c)) → (r : FileRec) × ((get store f ≡ Some r) × (r.owner ≡ Some (client_of c)))
    by_rec None is e = cc
    by_rec (Some r) is e = (r, (is, cc))

owned_dir : (shard : Shard) (store : Store) (c d : ℕ) (named : Bool) → Owns shard store c (Dir (record { 0 = d })) named → (r : DirRec) × ((get shard.recs d ≡ Some r) × (r.owner ≡ Some (client_of c)))
owned_dir shard store c d named owns = by_rec (get shard.recs d) refl owns.owner
  where
    by_rec : (o : Option DirRec) → get shard.recs d ≡ o → option_map (λ (r : DirRec). r.owner) o ≡ Some (Some (client_of c)) → (r : DirRec) × ((get shard.recs d ≡ Some r) × (r.owner ≡ Some (client_of c)))
    by_rec None is e = cc
    by_rec (Some r) is e = (r, (is, cc))

shown_by_name : (shard : Shard) (d : ℕ) → is_named_node shard (Dir (record { 0 = d })) ≡ true → is_shown shard d ≡ true
shown_by_name shard d e = by_test (d == 0) e
  where
    by_test : (b : Bool) {p : Bool} → p ≡ true → (b || p) ≡ true
    by_test true e = refl
    by_test false e = e

-- a look-up tells of a directory of the tree
row_tells : (shard : Shard) (dir : DirId) (name : List ℕ) (row : Row) → get shard.rows (row_key dir name) ≡ Some row → TellsShown shard (NodeReply row.node)
row_tells shard dir name row there = by_node row.node (named_of_row shard (row_key dir name) row there)
  where
    by_node : (node : Node) → is_named_node shard node ≡ true → TellsShown shard (NodeReply node)
    by_node (File f) named = tt
    by_node (Dir d) named = shown_by_name shard d.0 named

-- ---- the tree stays where a new directory is put, or an owned one is settled or taken back
put_dir_tree : (shard : Shard) (store : Store) (d : ℕ) (v : DirRec) → is_shown shard d ≡ false → tree (with_recs shard (insert shard.recs d v)) store ≡ tree shard store
put_dir_tree shard store d v hidden = λ i. record { dirs = dirs i; files = (tree shard store).files }
  where
    dirs : (tree (with_recs shard (insert shard.recs d v)) store).dirs ≡ (tree shard store).dirs
    dirs = dirs_alike shard (insert shard.recs d v) store store (λ q shown.
        let differ : q ≢ d = (λ same. let no : is_shown shard q ≡ false = ap (is_shown shard) same ∙ hidden in cc) in ap (option_map (λ (r : DirRec). r.attr.time)) (get-insert_other shard.recs d q v differ))

settle_dir_tree : (shard : Shard) (store : Store) (d : ℕ) (r v : DirRec) → get shard.recs d ≡ Some r → v.attr.time ≡ r.attr.time → tree (with_recs shard (insert shard.recs d v)) store ≡ tree shard store
settle_dir_tree shard store d r v there alike = λ i. record { dirs = dirs i; files = (tree shard store).files }
  where
    by_test : (q : ℕ) (b : Bool) → (q == d) ≡ b → option_map (λ (x : DirRec). x.attr.time) (get (insert shard.recs d v) q) ≡ option_map (λ (x : DirRec). x.attr.time) (get shard.recs q)
    by_test q true t = let same : q ≡ d = grind (arith, nat_tests) in rw (same, there, get-insert_same shard.recs d v) (ap Some alike)
    by_test q false t = let differ : q ≢ d = grind (arith, nat_tests) in ap (option_map (λ (x : DirRec). x.attr.time)) (get-insert_other shard.recs d q v differ)

    dirs : (tree (with_recs shard (insert shard.recs d v)) store).dirs ≡ (tree shard store).dirs
    dirs = dirs_alike shard (insert shard.recs d v) store store (λ q shown. by_test q (q == d) refl)

cut_dir_tree : (shard : Shard) (store : Store) (d : ℕ) → is_shown shard d ≡ false → tree (with_recs shard (remove shard.recs d)) store ≡ tree shard store
cut_dir_tree shard store d hidden = λ i. record { dirs = dirs i; files = (tree shard store).files }
  where
    dirs : (tree (with_recs shard (remove shard.recs d)) store).dirs ≡ (tree shard store).dirs
    dirs = dirs_alike shard (remove shard.recs d) store store (λ q shown.
        let differ : q ≢ d = (λ same. let no : is_shown shard q ≡ false = ap (is_shown shard) same ∙ hidden in cc) in ap (option_map (λ (r : DirRec). r.attr.time)) (get-remove_other shard.recs d q differ))

files_tree : (shard : Shard) (store store' : Store) → (tree shard store').files ≡ (tree shard store).files → tree shard store' ≡ tree shard store
files_tree shard store store' files = λ i. record { dirs = (tree shard store).dirs; files = files i }

-- ---- a directory that a row will name is not in the tree
hidden_dir : (shard : Shard) (store : Store) (lasts : ℕ → ℕ) (d : ℕ) → PlacesHold shard store lasts → is_named_node shard (Dir (record { 0 = d })) ≡ false → owner_at shard store (Dir (record { 0 = d })) ≢ Some None → is_shown shard d ≡ false
hidden_dir shard store lasts d h name owned = by_test (d == 0) refl name
  where
    by_test : (b : Bool) → (d == 0) ≡ b → {p : Bool} → p ≡ false → (b || p) ≡ false
    by_test true t n = let root : d ≡ 0 = grind (arith, nat_tests) in absurd (owned (ap (λ k. owner_at shard store (Dir (record { 0 = k }))) root ∙ h.root))
    by_test false t n = n

-- ---- the steps of a client in a call
module _ (counts : Counts) (good : AreCounts counts) (w : World) (c : ℕ) (rest : Reply → Plan) (last puts : ℕ) (done : List CallDone) (free : Unlocked w.shard) (h : Holds w) (follows : Follows w.shard rest) where
  abbrev at_phase : Phase → Progress
  at_phase phase = record { current = Some phase; rest = rest; ended = false; last = last; puts = puts; done = done }

  shard_next : (phase : Phase) (ask : Ask) (number : ℕ) (s : Served Shard) → Keeps w.shard s.contents w.store w.store (set_last w.lasts (place_of ask).0 number) c s.moved
      → PhaseReached s.contents w.store c (heard phase (place_of ask) (entry_of c number ask s)) → Next w (after_shard w c (at_phase phase) ask number s)
  shard_next phase ask number s k own =
      let entry = entry_of c number ask s in
      let actor = phase_holds s.contents w.store c (at_phase phase) entry (follows_keep w.shard s.contents k.shows rest follows) (heard phase (place_of ask) entry) own in
      record {
        holds = record { places = k.places; clients = clients_keep w.shard s.contents w.store w.store w.clients c _ k.shows k.others actor h.clients };
        past = λ past. record { same = past_step w.shard w.store w.run s.moved s.contents w.store past.same k.to; allowed = (may_step w.shard w.store w.run s.moved past.same k.may, past.allowed) };
        grows = inr (_, refl);
      }

  store_next : (phase : Phase) (ask : Ask) (number : ℕ) (s : Served Store) → Keeps w.shard w.shard w.store s.contents (set_last w.lasts (place_of ask).0 number) c s.moved
      → PhaseReached w.shard s.contents c (heard phase (place_of ask) (entry_of c number ask s)) → Next w (after_store w c (at_phase phase) ask number s)
  store_next phase ask number s k own =
      let entry = entry_of c number ask s in
      let actor = phase_holds w.shard s.contents c (at_phase phase) entry follows (heard phase (place_of ask) entry) own in
      record {
        holds = record { places = k.places; clients = clients_keep w.shard w.shard w.store s.contents w.clients c _ k.shows k.others actor h.clients };
        past = λ past. record { same = past_step w.shard w.store w.run s.moved w.shard s.contents past.same k.to; allowed = (may_step w.shard w.store w.run s.moved past.same k.may, past.allowed) };
        grows = inr (_, refl);
      }

  -- a step that is only a look
  look_next : (phase : Phase) (ask : Ask) (number : ℕ) (answer : Answer) → w.lasts (place_of ask).0 < number
      → PhaseReached w.shard w.store c (heard phase (place_of ask) (entry_of c number ask (unmoved w.shard answer))) → Next w (after_shard w c (at_phase phase) ask number (unmoved w.shard answer))
  look_next phase ask number answer later own = shard_next phase ask number (unmoved w.shard answer) (quiet w.shard w.store w.lasts (place_of ask).0 number c later h.places) own

  lookup_next : (dir : DirId) (name : List ℕ) (number : ℕ) → w.lasts (place_of (Read dir name)).0 < number → (q : Option Row) → get w.shard.rows (row_key dir name) ≡ q
      → Next w (after_shard w c (at_phase (Asking (Lookup dir name))) (Read dir name) number (unmoved w.shard (read_row q)))
  lookup_next dir name number later None there = look_next (Asking (Lookup dir name)) (Read dir name) number (read_row None) later tt
  lookup_next dir name number later (Some row) there = look_next (Asking (Lookup dir name)) (Read dir name) number (read_row (Some row)) later (row_tells w.shard dir name row there)

  list_next : (dir : DirId) (number : ℕ) → w.lasts (place_of (ListAsk dir)).0 < number → (o : Option DirRec) → Next w (after_shard w c (at_phase (Asking (ListCall dir))) (ListAsk dir) number (unmoved w.shard (list_rows w.shard dir.0 o)))
  list_next dir number later None = look_next (Asking (ListCall dir)) (ListAsk dir) number (list_rows w.shard dir.0 None) later tt
  list_next dir number later (Some r) = look_next (Asking (ListCall dir)) (ListAsk dir) number (list_rows w.shard dir.0 (Some r)) later tt

  abbrev put_ask : ℕ → DirId → Ask
  put_ask index dir = Put (client_of c) (store_place index) dir

  abbrev put_dir_ask : ℕ → DirId → List ℕ → Ask
  put_dir_ask index dir name = PutDir (client_of c) (shard_place index) dir name

  -- a file is put
  put_next : (dir : DirId) (name : List ℕ) (index number : ℕ) → index < 64 → w.lasts (64 + index) < number → is_shown w.shard dir.0 ≡ true
      → Next w (after_store w c (at_phase (Asking (Create dir name))) (put_ask index dir) number (put_file w.store (stamped number (put_ask index dir)) (client_of c) dir))
  put_next dir name index number low later sees =
      let f : FileId = record { 0 = made_at (stamped number (put_ask index dir)) } in
      let v : FileRec = new_file (client_of c) dir number in
      let r = set_file w.shard w.store h.places.counts f v in
      let none = fresh w.shard w.store w.lasts h.places (stamped number (put_ask index dir)) later (File f) refl (home_file number index low) in
      let name_none = unnamed w.shard w.store w.lasts h.places (stamped number (put_ask index dir)) later (File f) none in
      store_next (Asking (Create dir name)) (put_ask index dir) number (put_file w.store (stamped number (put_ask index dir)) (client_of c) dir)
      (put_keeps w.shard w.store w.lasts h.places (stamped number (put_ask index dir)) later c w.shard.recs (insert w.store f.0 v) (File f) (Some (client_of c)) r refl (home_file number index low)
      (files_tree w.shard w.store (insert w.store f.0 v) (files-put w.shard w.store f.0 v (client_of c) refl name_none (no_rec (get w.store f.0) refl none))))
      (record { sees = sees; owns = record { owner = r.here; name = name_none }; new = ap (option_map facts_of) (get-insert_same w.store f.0 v) })
    where
      no_rec : (o : Option FileRec) → get w.store (made_at (stamped number (put_ask index dir))) ≡ o → option_map (λ (r : FileRec). r.owner) (get w.store (made_at (stamped number (put_ask index dir)))) ≡ None → get w.store (made_at (stamped number (put_ask index dir))) ≡ None
      no_rec None is e = is
      no_rec (Some r) is e = let there : option_map (λ (r : FileRec). r.owner) (Some r) ≡ None = ap (option_map (λ (r : FileRec). r.owner)) (sym is) ∙ e in cc

  -- a directory is put
  put_dir_next : (dir : DirId) (name : List ℕ) (index number : ℕ) → index < 64 → w.lasts index < number → is_shown w.shard dir.0 ≡ true
      → Next w (after_shard w c (at_phase (Asking (Mkdir dir name))) (put_dir_ask index dir name) number (put_dir w.shard (stamped number (put_dir_ask index dir name)) (client_of c) dir name))
  put_dir_next dir name index number low later sees =
      let d : DirId = record { 0 = made_at (stamped number (put_dir_ask index dir name)) } in
      let v : DirRec = new_dir (client_of c) dir name number in
      let none = fresh w.shard w.store w.lasts h.places (stamped number (put_dir_ask index dir name)) later (Dir d) refl (home_dir number index low) in
      let name_none = unnamed w.shard w.store w.lasts h.places (stamped number (put_dir_ask index dir name)) later (Dir d) none in
      let hidden = hidden_dir w.shard w.store w.lasts d.0 h.places name_none (λ e. cc) in
      let empty_dir = no_rows_in w.shard w.store w.lasts d.0 h.places hidden in
      let r = set_dir w.shard w.store h.places.counts d v (record { children = sym (no_children w.shard d.0 empty_dir); subdirs = sym (no_subdirs w.shard d.0 empty_dir) }) in
      shard_next (Asking (Mkdir dir name)) (put_dir_ask index dir name) number (put_dir w.shard (stamped number (put_dir_ask index dir name)) (client_of c) dir name)
      (put_keeps w.shard w.store w.lasts h.places (stamped number (put_dir_ask index dir name)) later c (insert w.shard.recs d.0 v) w.store (Dir d) (Some (client_of c)) r refl (home_dir number index low) (put_dir_tree w.shard w.store d.0 v hidden))
      (record { sees = sees; owns = record { owner = r.here; name = name_none }; new = ap (option_map (λ (r : DirRec). r.attr.time)) (get-insert_same w.shard.recs d.0 v) })

  -- ---- a row is set, or not
  -- the move of the row, by the kind of its node
  move_allowed : (dir : DirId) (name : List ℕ) (node : Node) (ts : ℕ) → answer (tree w.shard w.store) (maker dir name node) ≡ MovedReply → MayInsert w.shard w.store c dir node ts
      → IsAllowed (tree w.shard w.store) (Some (Move (record { client = client_of c; call = maker dir name node; ts = ts; made = Some node })))
  move_allowed dir name (File f) ts free may =
      let r = owned_file w.shard w.store c f.0 false may.owns in
      (free, rw (get-tree_files w.shard w.store f.0, r.1.0, may.owns.name, r.1.1) refl)
  move_allowed dir name (Dir d) ts free may =
      let hidden = unshown w.shard w.store w.lasts c d h.places may.owns in
      (free, get-tree_dirs w.shard w.store d.0 ∙ ap (λ b. option_map (directory_of w.shard d.0) (cond b (get w.shard.recs d.0) None)) hidden)

  tree_moves : (at : Stamp) (dir : DirId) (name : List ℕ) (node : Node) (ts : ℕ) (r : DirRec) → get w.shard.recs dir.0 ≡ Some r → get w.shard.rows (row_key dir name) ≡ None → MayInsert w.shard w.store c dir node ts
      → tree (with_row w.shard at dir name node ts r) w.store ≡ after (tree w.shard w.store) (maker dir name node) (Some node) ts
  tree_moves at dir name (File f) ts r there free may =
      let own = owned_file w.shard w.store c f.0 false may.owns in
      let new : facts_of own.0 ≡ record { size = 0; time = ts } = some_same (sym (ap (option_map facts_of) own.1.0) ∙ may.new) in
      λ i. record {
        dirs = dirs-with_file w.shard at dir name f ts r w.store there may.sees free i;
        files = (files-with_file w.shard w.store at dir name f ts r own.0 own.1.0 free ∙ ap (insert (tree w.shard w.store).files f.0) new) i;
      }
    where
      some_same : {A : Type 0} {x y : A} → Some x ≡ Some y → x ≡ y
      some_same e = cc
  tree_moves at dir name (Dir d) ts r there free may =
      let hidden = unshown w.shard w.store w.lasts c d h.places may.owns in
      λ i. record {
        dirs = dirs-with_dir w.shard at dir name d ts r w.store there may.sees free hidden (no_rows_in w.shard w.store w.lasts d.0 h.places hidden) may.new i;
        files = files-with_dir w.shard w.store at dir name d ts r free i;
      }

  insert_next : (dir : DirId) (name : List ℕ) (node : Node) (ts : ℕ) (first at : Stamp) (number : ℕ) → w.lasts (place_of (Insert (client_of c) dir name node ts)).0 < number
      → (o : Option DirRec) → get w.shard.recs dir.0 ≡ o → (q : Option Row) → get w.shard.rows (row_key dir name) ≡ q → MayInsert w.shard w.store c dir node ts
      → Next w (after_shard w c (at_phase (Inserting dir name node ts first)) (Insert (client_of c) dir name node ts) number (inserted w.shard at (client_of c) dir name node ts o q))
  insert_next dir name node ts first at number later None e q f may = look_next (Inserting dir name node ts first) (Insert (client_of c) dir name node ts) number NoDir later may.owns
  insert_next dir name node ts first at number later (Some r) e (Some row) f may = look_next (Inserting dir name node ts first) (Insert (client_of c) dir name node ts) number Exists later may.owns
  insert_next dir name node ts first at number later (Some r) e None f may =
      shard_next (Inserting dir name node ts first) (Insert (client_of c) dir name node ts) number (inserted w.shard at (client_of c) dir name node ts (Some r) None)
      (record {
        places = raise _ w.store w.lasts _ (raised w.lasts (place_of (Insert (client_of c) dir name node ts)).0 number later) (insert_places w.shard w.store w.lasts h.places at dir name node ts c r e f may);
        shows = stays_shown w.shard at dir name node ts r f;
        others = insert_others w.shard w.store w.lasts h.places at dir name node ts c r e f may;
        to = tree_moves at dir name node ts r e f may;
        may = move_allowed dir name node ts (make_told w.shard w.store dir name node may.sees ∙ rw (e, f) refl) may;
      })
      (insert_own w.shard w.store w.lasts h.places at dir name node ts c r e f may)

  -- ---- an owner settles its node
  settle_file_next : (dir : DirId) (name : List ℕ) (f : FileId) (ts : ℕ) (first at : Stamp) (number : ℕ) → w.lasts (home_of (File f)).0 < number → Owns w.shard w.store c (File f) true
      → Next w (after_store w c (at_phase (Settling dir name (File f) ts first at)) (Settle (File f)) number (settled w.store f (get w.store f.0)))
  settle_file_next dir name f ts first at number later owns = let own = owned_file w.shard w.store c f.0 true owns in rw (own.1.0, own.1.1) (
      let v : FileRec = record own.0 { owner = None } in
      store_next (Settling dir name (File f) ts first at) (Settle (File f)) number (unmoved (insert w.store f.0 v) (Done None))
      (own_keeps w.shard w.store w.lasts h.places (home_of (File f)).0 number c later w.shard.recs (insert w.store f.0 v) (File f) true (Some None) (set_file w.shard w.store h.places.counts f v) owns
      (λ e. (None, refl)) (files_tree w.shard w.store (insert w.store f.0 v) (files-settle w.shard w.store f.0 own.0 v refl owns.name own.1.0)))
      tt)

  settle_dir_next : (dir : DirId) (name : List ℕ) (d : DirId) (ts : ℕ) (first at : Stamp) (number : ℕ) → w.lasts (home_of (Dir d)).0 < number → Owns w.shard w.store c (Dir d) true
      → Next w (after_shard w c (at_phase (Settling dir name (Dir d) ts first at)) (Settle (Dir d)) number (settled_dir w.shard d (get w.shard.recs d.0)))
  settle_dir_next dir name d ts first at number later owns = let own = owned_dir w.shard w.store c d.0 true owns in rw (own.1.0, own.1.1) (
      let v : DirRec = record own.0 { owner = None } in
      let old = h.places.counts d.0 own.0 own.1.0 in
      shard_next (Settling dir name (Dir d) ts first at) (Settle (Dir d)) number (unmoved (with_recs w.shard (insert w.shard.recs d.0 v)) (Done None))
      (own_keeps w.shard w.store w.lasts h.places (home_of (Dir d)).0 number c later (insert w.shard.recs d.0 v) w.store (Dir d) true (Some None)
      (set_dir w.shard w.store h.places.counts d v (record { children = old.children; subdirs = old.subdirs })) owns (λ e. (None, refl)) (settle_dir_tree w.shard w.store d.0 own.0 v own.1.0 refl))
      tt)

  -- ---- an owner takes its node back
  take_file_next : (dir : DirId) (name : List ℕ) (f : FileId) (errno : Errno) (first at : Stamp) (number : ℕ) → w.lasts (home_of (File f)).0 < number → Owns w.shard w.store c (File f) false
      → Next w (after_store w c (at_phase (TakingBack dir name (File f) errno first at)) (TakeBack (client_of c) (File f)) number (taken_back w.store (client_of c) f (get w.store f.0)))
  take_file_next dir name f errno first at number later owns = let own = owned_file w.shard w.store c f.0 false owns in let same : (c == c) ≡ true = grind (arith, nat_tests) in rw (own.1.0, own.1.1, same) (
      store_next (TakingBack dir name (File f) errno first at) (TakeBack (client_of c) (File f)) number (unmoved (remove w.store f.0) (Done None))
      (own_keeps w.shard w.store w.lasts h.places (home_of (File f)).0 number c later w.shard.recs (remove w.store f.0) (File f) false None (cut_file w.shard w.store h.places.counts f) owns
      (λ e. cc) (files_tree w.shard w.store (remove w.store f.0) (files-take_back w.shard w.store f.0 own.0 (client_of c) own.1.1 owns.name own.1.0)))
      tt)

  take_dir_next : (dir : DirId) (name : List ℕ) (d : DirId) (errno : Errno) (first at : Stamp) (number : ℕ) → w.lasts (home_of (Dir d)).0 < number → Owns w.shard w.store c (Dir d) false
      → Next w (after_shard w c (at_phase (TakingBack dir name (Dir d) errno first at)) (TakeBack (client_of c) (Dir d)) number (taken_back_dir w.shard (client_of c) d (get w.shard.recs d.0)))
  take_dir_next dir name d errno first at number later owns = let own = owned_dir w.shard w.store c d.0 false owns in let same : (c == c) ≡ true = grind (arith, nat_tests) in rw (own.1.0, own.1.1, same) (
      shard_next (TakingBack dir name (Dir d) errno first at) (TakeBack (client_of c) (Dir d)) number (unmoved (with_recs w.shard (remove w.shard.recs d.0)) (Done None))
      (own_keeps w.shard w.store w.lasts h.places (home_of (Dir d)).0 number c later (remove w.shard.recs d.0) w.store (Dir d) false None (cut_dir w.shard w.store h.places.counts d) owns
      (λ e. cc) (cut_dir_tree w.shard w.store d.0 (unshown w.shard w.store w.lasts c d h.places owns)))
      tt)

  -- ---- whichever step it is
  newer : (ask : Ask) → w.lasts (place_of ask).0 < number_after last (w.lasts (place_of ask).0)
  newer ask = omega arith

  in_shard : (phase : Phase) (ask : Ask) → nat_lt (place_of ask).0 64 ≡ true
      → Next w (after_shard w c (at_phase phase) ask (number_after last (w.lasts (place_of ask).0)) (serve_free w.shard (stamped (number_after last (w.lasts (place_of ask).0)) ask) ask))
      → Next w (step w c (at_phase phase) ask)
  in_shard phase ask is next = rw is (subst (λ (s : Served Shard). Next w (after_shard w c (at_phase phase) ask (number_after last (w.lasts (place_of ask).0)) s)) (sym (serve_shard-unlocked w.shard free (stamped (number_after last (w.lasts (place_of ask).0)) ask) ask)) next)

  in_store : (phase : Phase) (ask : Ask) → nat_lt (place_of ask).0 64 ≡ false → nat_lt (place_of ask).0 128 ≡ true
      → Next w (after_store w c (at_phase phase) ask (number_after last (w.lasts (place_of ask).0)) (serve_store w.store (stamped (number_after last (w.lasts (place_of ask).0)) ask) ask))
      → Next w (step w c (at_phase phase) ask)
  in_store phase ask is also next = rw (is, also) next

  low_index : (count : ℕ) → IsCount count → (c + puts) % count < 64
  low_index count k = let low : (c + puts) % count < count = mod_below (c + puts) count k.0 in omega (arith, k.1)

  low_number : (n : ℕ) → n % 64 < 64
  low_number n = mod_below n 64 (omega arith)

  phase_next : (phase : Phase) → PhaseHolds w.shard w.store c phase → Next w (turn_of counts w c (at_phase phase))
  phase_next (Asking (Lookup dir name)) own = in_shard (Asking (Lookup dir name)) (Read dir name) (below_64 (dir.0 % 64) (low_number dir.0)) (lookup_next dir name _ (newer (Read dir name)) _ refl)
  phase_next (Asking (ListCall dir)) own = in_shard (Asking (ListCall dir)) (ListAsk dir) (below_64 (dir.0 % 64) (low_number dir.0)) (list_next dir _ (newer (ListAsk dir)) (get w.shard.recs dir.0))
  phase_next (Asking (Create dir name)) own =
      let index = (c + puts) % counts.stores in
      let low = low_index counts.stores good.stores in
      in_store (Asking (Create dir name)) (put_ask index dir) (not_below_64 index) (below_128 index low) (put_next dir name index _ low (newer (put_ask index dir)) own.sees)
  phase_next (Asking (Mkdir dir name)) own =
      let index = (c + puts) % counts.shards in
      let low = low_index counts.shards good.shards in
      in_shard (Asking (Mkdir dir name)) (put_dir_ask index dir name) (below_64 index low) (put_dir_next dir name index _ low (newer (put_dir_ask index dir name)) own.sees)
  phase_next (Asking call) own = let built : has_steps call ≡ true = own.built in absurd (cc)
  phase_next (Inserting dir name node ts first) own =
      in_shard (Inserting dir name node ts first) (Insert (client_of c) dir name node ts) (below_64 (dir.0 % 64) (low_number dir.0)) (insert_next dir name node ts first _ _ (newer (Insert (client_of c) dir name node ts)) _ refl _ refl own)
  phase_next (Settling dir name (File f) ts first at) own =
      in_store (Settling dir name (File f) ts first at) (Settle (File f)) (not_below_64 (f.0 % 64)) (below_128 (f.0 % 64) (low_number f.0)) (settle_file_next dir name f ts first at _ (newer (Settle (File f))) own)
  phase_next (Settling dir name (Dir d) ts first at) own =
      in_shard (Settling dir name (Dir d) ts first at) (Settle (Dir d)) (below_64 (d.0 % 64) (low_number d.0)) (settle_dir_next dir name d ts first at _ (newer (Settle (Dir d))) own)
  phase_next (TakingBack dir name (File f) errno first at) own =
      in_store (TakingBack dir name (File f) errno first at) (TakeBack (client_of c) (File f)) (not_below_64 (f.0 % 64)) (below_128 (f.0 % 64) (low_number f.0)) (take_file_next dir name f errno first at _ (newer (TakeBack (client_of c) (File f))) own)
  phase_next (TakingBack dir name (Dir d) errno first at) own =
      in_shard (TakingBack dir name (Dir d) errno first at) (TakeBack (client_of c) (Dir d)) (below_64 (d.0 % 64) (low_number d.0)) (take_dir_next dir name d errno first at _ (newer (TakeBack (client_of c) (Dir d))) own)
  phase_next (Finished done) own = absurd own

-- ---- a turn
turn_next : (counts : Counts) → AreCounts counts → (w : World) (c : ℕ) (current : Option Phase) (rest : Reply → Plan) (ended : Bool) (last puts : ℕ) (done : List CallDone)
    → Unlocked w.shard → Holds w → Follows w.shard rest → CurrentHolds w.shard w.store c current
    → Next w (turn_of counts w c (record { current = current; rest = rest; ended = ended; last = last; puts = puts; done = done }))
turn_next counts good w c current rest true last puts done free h follows own = record { holds = h; past = λ past. past; grows = inl refl }
turn_next counts good w c None rest false last puts done free h follows own = record {
  holds = record {
    places = raise w.shard w.store w.lasts _ (raised w.lasts 129 (number_after last (w.lasts 129)) (omega arith)) h.places;
    clients = clients_keep w.shard w.shard w.store w.store w.clients c _ (λ d s. s) (λ i d o x. x) (record { current = tt; follows = follows }) h.clients;
  };
  past = λ past. record { same = past.same; allowed = (tt, past.allowed) };
  grows = inr (_, refl);
}
turn_next counts good w c (Some phase) rest false last puts done free h follows own = phase_next counts good w c rest last puts done free h follows phase own

pub next_of : (counts : Counts) → AreCounts counts → (w : World) (c : ℕ) → Unlocked w.shard → Holds w → Next w (turn counts w c)
next_of counts good w c free h =
    let p = w.clients c in
    let client = h.clients c in
    turn_next counts good w c p.current p.rest p.ended p.last p.puts p.done free h client.follows client.current

pub run_keeps : (counts : Counts) → AreCounts counts → (cs : List ℕ) (w : World) → Unlocked w.shard → Holds w → Holds (run_of counts cs w)
run_keeps counts good [] w free h = h
run_keeps counts good (c ∷ cs) w free h = run_keeps counts good cs (turn counts w c) (turn-unlocked counts w c free) (next_of counts good w c free h).holds

pub run_past : (counts : Counts) → AreCounts counts → (cs : List ℕ) (w : World) → Unlocked w.shard → Holds w → Past w → Past (run_of counts cs w)
run_past counts good [] w free h past = past
run_past counts good (c ∷ cs) w free h past = let next = next_of counts good w c free h in run_past counts good cs (turn counts w c) (turn-unlocked counts w c free) next.holds (next.past past)
