-- Each turn keeps what holds of the past.
use Rattle.std.proofs.Common.{◌≡◌, ℕ, ◌+◌, ◌<◌, List, [], ◌∷◌, Bool, true, false, refl, sym, ◌∙◌, ap, subst, arith}
use Rattle.std.specs.Prelude.{if◌then◌else◌, ◌&&◌, ◌==◌, ◌%◌, nat_lt, Option, Some, None}
use Rattle.std.specs.FinMap.{get, remove, entries}
use Rattle.std.proofs.lemmas.Bool.Decides.{nat_tests}
use Rattle.std.proofs.lemmas.Nat.{mod_below}
use Rattle.cfs_ids.specs.declared.ids.Client.{Client}
use Rattle.cfs_ids.specs.declared.ids.Stamp.{Stamp}
use Rattle.cfs_ids.specs.declared.ids.DirId.{DirId}
use Rattle.cfs_ids.specs.declared.ids.FileId.{FileId}
use Rattle.cfs_ids.specs.declared.ids.Node.{Node}
use Rattle.cfs_ids.specs.declared.ids.Node.TheVariants.{Dir, File}
use Rattle.cfs_ids.specs.declared.errno.Errno.{Errno}
use Rattle.cfs_ids.specs.declared.errno.Errno.TheVariants.{Enoent, Eexist}
use Rattle.cfs_ids.specs.declared.call.Call.{Call}
use Rattle.cfs_ids.specs.declared.call.Call.TheVariants.{Lookup, List as ListCall, Create, Mkdir}
use Rattle.cfs_ids.specs.declared.call.Reply.{Reply}
use Rattle.cfs_ids.specs.declared.call.Reply.TheVariants.{Moved as MovedReply, Node as NodeReply, Rows as RowsReply, Refused}
use Rattle.cfs_ids.specs.Maps.{row_key}
use Rattle.cfs_ids.specs.Namespace.{answer}
use Rattle.cfs_steps.specs.declared.contents.Row.{Row}
use Rattle.cfs_steps.specs.declared.contents.DirRec.{DirRec}
use Rattle.cfs_steps.specs.declared.contents.FileRec.{FileRec}
use Rattle.cfs_steps.specs.declared.ask.Ask.{Ask}
use Rattle.cfs_steps.specs.declared.ask.Ask.TheVariants.{Read, List as ListAsk, Insert, Put, PutDir, Settle, TakeBack, End}
use Rattle.cfs_steps.specs.declared.answer.Answer.TheVariants.{NoDir, Exists, Done, None as NoneAnswer}
use Rattle.cfs_steps.specs.declared.call_done.CallDone.{CallDone}
use Rattle.cfs_steps.specs.Asks.{place_of, home_of}
use Rattle.cfs_steps.specs.Phases.{Phase, Asking, Inserting, Settling, TakingBack, Finished, maker, has_steps, shard_place, store_place}
use Rattle.cfs_rules.specs.Places.{Shard, Store, Served, with_recs, names_of, number_after, unmoved, read_row, list_rows, inserted, settled, settle_owner, settled_dir, settle_dir_owner, taken_back, take_owned, taken_back_dir, take_owned_dir, serve_free, serve_store, serve_roster}
use Rattle.cfs_rules.specs.Trees.{is_shown, tree}
use Rattle.cfs_rules.specs.Facts.{space, Unlocked}
use Rattle.cfs_rules.specs.Known.{Known, Sees, reply_of_row, reply_of_list, reply_of_create}
use Rattle.cfs_rules.specs.Worlds.{World, Plan, Ends, Calls, Counts, AreCounts, Setup, IsSetup, IsCount, Progress, client_of, entry_of, first_of, hears, set_client, set_last, opening, stamped, after_shard, after_store, step, turn_of, turn, run_of, played}
use Rattle.cfs_rules.proofs.Locks.{serve_shard-unlocked}
use Rattle.cfs_laws_history.proofs.Pasts.{ClientPast, IsOthers, ClientPast-grown}
use Rattle.cfs_laws_history.proofs.Creates.{begin, settle}
use Rattle.cfs_laws_history.proofs.Replied.{answer_now, refuse_now, end_refused, end_moved}
use Rattle.cfs_laws_history.proofs.Steps.{PastIn, Past, IsBy, step_entry, past_step}

pub own_stamp : (number place : ℕ) → ((number == number) && (place == place)) ≡ true
own_stamp number place = grind (arith, nat_tests)

-- ---- the namespace's answers
module _ (w : World) (known : Known w) where
  right : (call : Call) (reply : Reply) → answer (tree w.shard w.store) call ≡ reply → answer (space w.run) call ≡ reply
  right call reply h = ap (λ n. answer n call) (sym known.same) ∙ h

  lookup_right : (dir : DirId) (name : List ℕ) → is_shown w.shard dir.0 ≡ true → (row : Option Row) → get w.shard.rows (row_key dir name) ≡ row → answer (space w.run) (Lookup dir name) ≡ reply_of_row row
  lookup_right dir name sees row e = right (Lookup dir name) (reply_of_row row) (known.lookup dir name sees ∙ ap reply_of_row e)

  list_right : (dir : DirId) → is_shown w.shard dir.0 ≡ true → (r : Option DirRec) → get w.shard.recs dir.0 ≡ r → answer (space w.run) (ListCall dir) ≡ reply_of_list w.shard dir.0 r
  list_right dir sees r e = right (ListCall dir) (reply_of_list w.shard dir.0 r) (known.listed dir sees ∙ ap (reply_of_list w.shard dir.0) e)

  make_right : (dir : DirId) (name : List ℕ) (node : Node) → is_shown w.shard dir.0 ≡ true → (r : Option DirRec) (row : Option Row) → get w.shard.recs dir.0 ≡ r → get w.shard.rows (row_key dir name) ≡ row → answer (space w.run) (maker dir name node) ≡ reply_of_create r row
  make_right dir name node sees r row e f = right (maker dir name node) (reply_of_create r row) (known.make dir name node sees ∙ ap (λ o. reply_of_create o (get w.shard.rows (row_key dir name))) e ∙ ap (reply_of_create r) f)

-- ---- a turn, by where the client's call is
module _ (w : World) (c : ℕ) (rest : Reply → Plan) (last puts : ℕ) (done : List CallDone) (number : ℕ) (known : Known w) (past : Past w) where
  abbrev at_phase : Phase → Progress
  at_phase phase = record { current = Some phase; rest = rest; ended = false; last = last; puts = puts; done = done }

  abbrev IsNewer : Ask → Type 0
  IsNewer ask = w.lasts (place_of ask).0 < number

  lookup_past : (dir : DirId) (name : List ℕ) → is_shown w.shard dir.0 ≡ true → (row : Option Row) → get w.shard.rows (row_key dir name) ≡ row → IsNewer (Read dir name) → ClientPast w.run c done (Some (Asking (Lookup dir name)))
      → Past (after_shard w c (at_phase (Asking (Lookup dir name))) (Read dir name) number (unmoved w.shard (read_row row)))
  lookup_past dir name sees None e new h = past_step w c (at_phase (Asking (Lookup dir name))) (Read dir name) number (unmoved w.shard (read_row None)) past new tt
      (λ fresh. answer_now w.run _ c done (stamped number (Read dir name)) fresh (own_stamp number (dir.0 % 64)) tt (rest (Refused Enoent)) (Lookup dir name) (Refused Enoent) h tt (lookup_right w known dir name sees None e))
  lookup_past dir name sees (Some row) e new h = past_step w c (at_phase (Asking (Lookup dir name))) (Read dir name) number (unmoved w.shard (read_row (Some row))) past new tt
      (λ fresh. answer_now w.run _ c done (stamped number (Read dir name)) fresh (own_stamp number (dir.0 % 64)) tt (rest (NodeReply row.node)) (Lookup dir name) (NodeReply row.node) h tt (lookup_right w known dir name sees (Some row) e))

  list_past : (dir : DirId) → is_shown w.shard dir.0 ≡ true → (r : Option DirRec) → get w.shard.recs dir.0 ≡ r → IsNewer (ListAsk dir) → ClientPast w.run c done (Some (Asking (ListCall dir)))
      → Past (after_shard w c (at_phase (Asking (ListCall dir))) (ListAsk dir) number (unmoved w.shard (list_rows w.shard dir.0 r)))
  list_past dir sees None e new h = past_step w c (at_phase (Asking (ListCall dir))) (ListAsk dir) number (unmoved w.shard (list_rows w.shard dir.0 None)) past new tt
      (λ fresh. answer_now w.run _ c done (stamped number (ListAsk dir)) fresh (own_stamp number (dir.0 % 64)) tt (rest (Refused Enoent)) (ListCall dir) (Refused Enoent) h tt (list_right w known dir sees None e))
  list_past dir sees (Some r) e new h = past_step w c (at_phase (Asking (ListCall dir))) (ListAsk dir) number (unmoved w.shard (list_rows w.shard dir.0 (Some r))) past new tt
      (λ fresh. answer_now w.run _ c done (stamped number (ListAsk dir)) fresh (own_stamp number (dir.0 % 64)) tt (rest (RowsReply (entries (names_of w.shard dir.0)))) (ListCall dir) (RowsReply (entries (names_of w.shard dir.0))) h tt (list_right w known dir sees (Some r) e))

  put_past : (dir : DirId) (name : List ℕ) (index : ℕ) → IsNewer (Put (client_of c) (store_place index) dir) → ClientPast w.run c done (Some (Asking (Create dir name)))
      → Past (after_store w c (at_phase (Asking (Create dir name))) (Put (client_of c) (store_place index) dir) number (serve_store w.store (stamped number (Put (client_of c) (store_place index) dir)) (Put (client_of c) (store_place index) dir)))
  put_past dir name index new h =
      let ask = Put (client_of c) (store_place index) dir in
      past_step w c (at_phase (Asking (Create dir name))) ask number (serve_store w.store (stamped number ask) ask) past new tt
      (λ fresh. begin w.run _ c done (Create dir name) dir name _ number (stamped number ask) fresh (own_stamp number (64 + index)) tt h)

  put_dir_past : (dir : DirId) (name : List ℕ) (index : ℕ) → IsNewer (PutDir (client_of c) (shard_place index) dir name) → ClientPast w.run c done (Some (Asking (Mkdir dir name)))
      → Past (after_shard w c (at_phase (Asking (Mkdir dir name))) (PutDir (client_of c) (shard_place index) dir name) number (serve_free w.shard (stamped number (PutDir (client_of c) (shard_place index) dir name)) (PutDir (client_of c) (shard_place index) dir name)))
  put_dir_past dir name index new h =
      let ask = PutDir (client_of c) (shard_place index) dir name in
      past_step w c (at_phase (Asking (Mkdir dir name))) ask number (serve_free w.shard (stamped number ask) ask) past new tt
      (λ fresh. begin w.run _ c done (Mkdir dir name) dir name _ number (stamped number ask) fresh (own_stamp number index) tt h)

  insert_past : (dir : DirId) (name : List ℕ) (node : Node) (ts : ℕ) (first : Stamp) → is_shown w.shard dir.0 ≡ true → (r : Option DirRec) → get w.shard.recs dir.0 ≡ r → (row : Option Row) → get w.shard.rows (row_key dir name) ≡ row
      → IsNewer (Insert (client_of c) dir name node ts) → ClientPast w.run c done (Some (Inserting dir name node ts first))
      → Past (after_shard w c (at_phase (Inserting dir name node ts first)) (Insert (client_of c) dir name node ts) number (inserted w.shard (stamped number (Insert (client_of c) dir name node ts)) (client_of c) dir name node ts r row))
  insert_past dir name node ts first sees None e row f new h =
      past_step w c (at_phase (Inserting dir name node ts first)) (Insert (client_of c) dir name node ts) number (unmoved w.shard NoDir) past new tt
      (λ fresh. refuse_now w.run _ c done (stamped number (Insert (client_of c) dir name node ts)) fresh (own_stamp number (dir.0 % 64)) tt dir name node ts Enoent first h (make_right w known dir name node sees None row e f))
  insert_past dir name node ts first sees (Some r) e (Some row) f new h =
      past_step w c (at_phase (Inserting dir name node ts first)) (Insert (client_of c) dir name node ts) number (unmoved w.shard Exists) past new tt
      (λ fresh. refuse_now w.run _ c done (stamped number (Insert (client_of c) dir name node ts)) fresh (own_stamp number (dir.0 % 64)) tt dir name node ts Eexist first h (make_right w known dir name node sees (Some r) (Some row) e f))
  insert_past dir name node ts first sees (Some r) e None f new h =
      past_step w c (at_phase (Inserting dir name node ts first)) (Insert (client_of c) dir name node ts) number
      (inserted w.shard (stamped number (Insert (client_of c) dir name node ts)) (client_of c) dir name node ts (Some r) None) past new refl
      (λ fresh. settle w.run _ c done dir name node ts first (stamped number (Insert (client_of c) dir name node ts)) fresh (own_stamp number (dir.0 % 64)) refl h)

  settle_past : {C : Type 0} (dir : DirId) (name : List ℕ) (node : Node) (ts : ℕ) (first at : Stamp) (s : Served C) → s.moved ≡ None → IsNewer (Settle node) → ClientPast w.run c done (Some (Settling dir name node ts first at))
      → PastIn (set_last w.lasts (place_of (Settle node)).0 number) (step_entry c number (Settle node) s ∷ w.run) (set_client w.clients c (hears (at_phase (Settling dir name node ts first at)) (place_of (Settle node)) (entry_of c number (Settle node) s)))
  settle_past dir name node ts first at s none new h =
      past_step w c (at_phase (Settling dir name node ts first at)) (Settle node) number s past new (subst (IsBy c) (sym none) tt)
      (λ fresh. end_moved w.run _ c done (stamped number (Settle node)) fresh (own_stamp number (home_of node).0) (subst (IsOthers c) (sym none) tt) (rest MovedReply) dir name node ts first at h)

  take_back_past : {C : Type 0} (dir : DirId) (name : List ℕ) (node : Node) (errno : Errno) (first at : Stamp) (s : Served C) → s.moved ≡ None → IsNewer (TakeBack (client_of c) node) → ClientPast w.run c done (Some (TakingBack dir name node errno first at))
      → PastIn (set_last w.lasts (place_of (TakeBack (client_of c) node)).0 number) (step_entry c number (TakeBack (client_of c) node) s ∷ w.run)
      (set_client w.clients c (hears (at_phase (TakingBack dir name node errno first at)) (place_of (TakeBack (client_of c) node)) (entry_of c number (TakeBack (client_of c) node) s)))
  take_back_past dir name node errno first at s none new h =
      past_step w c (at_phase (TakingBack dir name node errno first at)) (TakeBack (client_of c) node) number s past new (subst (IsBy c) (sym none) tt)
      (λ fresh. end_refused w.run _ c done (stamped number (TakeBack (client_of c) node)) fresh (own_stamp number (home_of node).0) (subst (IsOthers c) (sym none) tt) (rest (Refused errno)) dir name node errno first at h)

-- ---- settling a node and taking one back move nothing
settled_moved : (s : Store) (file : FileId) (o : Option FileRec) → (settled s file o).moved ≡ None
settled_moved s file None = refl
settled_moved s file (Some r) = owned r.owner
  where
    owned : (o : Option Client) → (settle_owner s file r o).moved ≡ None
    owned None = refl
    owned (Some c) = refl

settled_dir_moved : (s : Shard) (dir : DirId) (o : Option DirRec) → (settled_dir s dir o).moved ≡ None
settled_dir_moved s dir None = refl
settled_dir_moved s dir (Some r) = owned r.owner
  where
    owned : (o : Option Client) → (settle_dir_owner s dir r o).moved ≡ None
    owned None = refl
    owned (Some c) = refl

either_unmoved : {C : Type 0} (b : Bool) (x y : Served C) → x.moved ≡ None → y.moved ≡ None → (if b then x else y).moved ≡ None
either_unmoved true x y h k = h
either_unmoved false x y h k = k

taken_back_moved : (s : Store) (client : Client) (file : FileId) (o : Option FileRec) → (taken_back s client file o).moved ≡ None
taken_back_moved s client file None = refl
taken_back_moved s client file (Some r) = owned r.owner
  where
    owned : (o : Option Client) → (take_owned s client file o).moved ≡ None
    owned None = refl
    owned (Some c) = either_unmoved (c.0 == client.0) (unmoved (remove s file.0) (Done None)) (unmoved s NoneAnswer) refl refl

taken_back_dir_moved : (s : Shard) (client : Client) (dir : DirId) (o : Option DirRec) → (taken_back_dir s client dir o).moved ≡ None
taken_back_dir_moved s client dir None = refl
taken_back_dir_moved s client dir (Some r) = owned r.owner
  where
    owned : (o : Option Client) → (take_owned_dir s client dir o).moved ≡ None
    owned None = refl
    owned (Some c) = either_unmoved (c.0 == client.0) (unmoved (with_recs s (remove s.recs dir.0)) (Done None)) (unmoved s NoneAnswer) refl refl

-- ---- the kind of the place that is asked
in_a_shard : (w : World) → Unlocked w.shard → (c : ℕ) (p : Progress) (ask : Ask) → nat_lt (place_of ask).0 64 ≡ true
    → Past (after_shard w c p ask (number_after p.last (w.lasts (place_of ask).0)) (serve_free w.shard (stamped (number_after p.last (w.lasts (place_of ask).0)) ask) ask)) → Past (step w c p ask)
in_a_shard w free c p ask here h = rw here (subst (λ (s : Served Shard). Past (after_shard w c p ask (number_after p.last (w.lasts (place_of ask).0)) s)) (sym (serve_shard-unlocked w.shard free (stamped (number_after p.last (w.lasts (place_of ask).0)) ask) ask)) h)

in_a_store : (w : World) (c : ℕ) (p : Progress) (ask : Ask) → nat_lt (place_of ask).0 64 ≡ false → nat_lt (place_of ask).0 128 ≡ true
    → Past (after_store w c p ask (number_after p.last (w.lasts (place_of ask).0)) (serve_store w.store (stamped (number_after p.last (w.lasts (place_of ask).0)) ask) ask)) → Past (step w c p ask)
in_a_store w c p ask above here h = rw (above, here) h

pub shard_low : (d : ℕ) → nat_lt (d % 64) 64 ≡ true
shard_low d = grind (arith, nat_tests)

pub low_index : (n count : ℕ) → IsCount count → n % count < 64
low_index n count k = let low : n % count < count = mod_below n count k.0 in omega (arith, k.1)

store_above : (i : ℕ) → nat_lt (64 + i) 64 ≡ false
store_above i = grind (arith, nat_tests)

store_low : (f : ℕ) → nat_lt (64 + f % 64) 128 ≡ true
store_low f = grind (arith, nat_tests)

module _ (counts : Counts) (good : AreCounts counts) (w : World) (c : ℕ) (rest : Reply → Plan) (last puts : ℕ) (done : List CallDone) (known : Known w) (past : Past w) where
  abbrev phase_at : Phase → Progress
  phase_at phase = record { current = Some phase; rest = rest; ended = false; last = last; puts = puts; done = done }

  abbrev number_of : Ask → ℕ
  number_of ask = number_after last (w.lasts (place_of ask).0)

  newer : (ask : Ask) → w.lasts (place_of ask).0 < number_of ask
  newer ask = omega arith

  phase_past : (phase : Phase) → Sees w.shard (Some phase) → ClientPast w.run c done (Some phase) → Past (turn_of counts w c (phase_at phase))
  phase_past (Asking (Lookup dir name)) sees h =
      in_a_shard w known.free c (phase_at (Asking (Lookup dir name))) (Read dir name) (shard_low dir.0) (lookup_past w c rest last puts done (number_of (Read dir name)) known past dir name sees.sees _ refl (newer (Read dir name)) h)
  phase_past (Asking (ListCall dir)) sees h =
      in_a_shard w known.free c (phase_at (Asking (ListCall dir))) (ListAsk dir) (shard_low dir.0) (list_past w c rest last puts done (number_of (ListAsk dir)) known past dir sees.sees _ refl (newer (ListAsk dir)) h)
  phase_past (Asking (Create dir name)) sees h =
      let index = (c + puts) % counts.stores in
      let ask = Put (client_of c) (store_place index) dir in
      let low = low_index (c + puts) counts.stores good.stores in
      in_a_store w c (phase_at (Asking (Create dir name))) ask (store_above index) (grind (arith, nat_tests, low)) (put_past w c rest last puts done (number_of ask) known past dir name index (newer ask) h)
  phase_past (Asking (Mkdir dir name)) sees h =
      let index = (c + puts) % counts.shards in
      let ask = PutDir (client_of c) (shard_place index) dir name in
      let low = low_index (c + puts) counts.shards good.shards in
      in_a_shard w known.free c (phase_at (Asking (Mkdir dir name))) ask (grind (arith, nat_tests, low)) (put_dir_past w c rest last puts done (number_of ask) known past dir name index (newer ask) h)
  phase_past (Asking call) sees h = let built : has_steps call ≡ true = sees.built in absurd (cc)
  phase_past (Inserting dir name node ts first) sees h =
      let ask = Insert (client_of c) dir name node ts in
      in_a_shard w known.free c (phase_at (Inserting dir name node ts first)) ask (shard_low dir.0) (insert_past w c rest last puts done (number_of ask) known past dir name node ts first sees _ refl _ refl (newer ask) h)
  phase_past (Settling dir name (File f) ts first at) sees h =
      in_a_store w c (phase_at (Settling dir name (File f) ts first at)) (Settle (File f)) (store_above (f.0 % 64)) (store_low f.0)
      (settle_past w c rest last puts done (number_of (Settle (File f))) known past dir name (File f) ts first at (settled w.store f (get w.store f.0)) (settled_moved w.store f (get w.store f.0)) (newer (Settle (File f))) h)
  phase_past (Settling dir name (Dir d) ts first at) sees h =
      in_a_shard w known.free c (phase_at (Settling dir name (Dir d) ts first at)) (Settle (Dir d)) (shard_low d.0)
      (settle_past w c rest last puts done (number_of (Settle (Dir d))) known past dir name (Dir d) ts first at (settled_dir w.shard d (get w.shard.recs d.0)) (settled_dir_moved w.shard d (get w.shard.recs d.0)) (newer (Settle (Dir d))) h)
  phase_past (TakingBack dir name (File f) errno first at) sees h =
      let ask = TakeBack (client_of c) (File f) in
      in_a_store w c (phase_at (TakingBack dir name (File f) errno first at)) ask (store_above (f.0 % 64)) (store_low f.0)
      (take_back_past w c rest last puts done (number_of ask) known past dir name (File f) errno first at (taken_back w.store (client_of c) f (get w.store f.0)) (taken_back_moved w.store (client_of c) f (get w.store f.0)) (newer ask) h)
  phase_past (TakingBack dir name (Dir d) errno first at) sees h =
      let ask = TakeBack (client_of c) (Dir d) in
      in_a_shard w known.free c (phase_at (TakingBack dir name (Dir d) errno first at)) ask (shard_low d.0)
      (take_back_past w c rest last puts done (number_of ask) known past dir name (Dir d) errno first at (taken_back_dir w.shard (client_of c) d (get w.shard.recs d.0)) (taken_back_dir_moved w.shard (client_of c) d (get w.shard.recs d.0)) (newer ask) h)
  phase_past (Finished d) sees h = absurd h.phase

  turn_past : (ended : Bool) (current : Option Phase) → Sees w.shard current → ClientPast w.run c done current
      → Past (turn_of counts w c (record { current = current; rest = rest; ended = ended; last = last; puts = puts; done = done }))
  turn_past true current sees h = past
  turn_past false None sees h =
      past_step w c (record { current = None; rest = rest; ended = false; last = last; puts = puts; done = done }) (End (client_of c)) (number_of (End (client_of c))) (serve_roster w.roster (End (client_of c))) past (newer (End (client_of c))) tt
      (λ fresh. ClientPast-grown w.run _ fresh c done None tt h)
  turn_past false (Some phase) sees h = phase_past phase sees h

module _ (setup : Setup) (good : IsSetup setup) where
  run_past : (cs : List ℕ) (w : World) → ((ds : List ℕ) → Known (run_of setup.counts ds w)) → Past w → Past (run_of setup.counts cs w)
  run_past [] w known past = past
  run_past (c ∷ cs) w known past =
      let p = w.clients c in
      run_past cs (turn setup.counts w c) (λ ds. known (c ∷ ds)) (turn_past setup.counts good.counts w c p.rest p.last p.puts p.done (known []) past p.ended p.current ((known []).sees c) (past.clients c))

  opening_past : Past (opening setup)
  opening_past = record { low = λ s there. absurd (cc); clients = λ i. opens i (setup.plans i) }
    where
      opens : (i : ℕ) (plan : Plan) → ClientPast [] i [] (first_of plan)
      opens i Ends = record { there = tt; lines = record { positions = tt; ended = tt; follow = tt; right = tt }; phase = tt; told = λ q. refl }
      opens i (Calls call next) = record { there = tt; lines = record { positions = tt; ended = tt; follow = tt; right = tt }; phase = tt; told = λ q. refl }

  -- what holds of the past of every run in which the places are known to hold the tree
  pub past_of : (turns : List ℕ) → ((cs : List ℕ) → Known (played setup cs)) → Past (played setup turns)
  past_of turns known = run_past turns (opening setup) known opening_past
