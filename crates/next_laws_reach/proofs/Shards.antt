-- A shard that has what is there and is asked for what is there, still has that, and answers with that.
use Rattle.std.proofs.Common.{◌≡◌, ℕ, ◌+◌, ◌*◌, ◌%◌, ◌<◌, ◌≤◌, List, [], ◌∷◌, Bool, true, false, arith, inl, inr}
use Rattle.std.specs.Prelude.{Option, Some, None, if◌then◌else◌, ◌==◌, ◌&&◌, nat_lt}
use Rattle.std.specs.Str.{bytes_eq}
use Rattle.std.specs.List.{list_any}
use Rattle.std.specs.FinMap.{get, entries}
use Rattle.std.proofs.lemmas.Bool.Decides.{nat_tests}
use Rattle.next_ids.specs.declared.ids.Actor.TheVariants.{Client as ClientActor}
use Rattle.next_ids.specs.declared.ids.Client.{Client}
use Rattle.next_ids.specs.declared.ids.DirId.{DirId}
use Rattle.next_ids.specs.declared.ids.FileId.{FileId}
use Rattle.next_ids.specs.declared.ids.JobNo.{JobNo}
use Rattle.next_ids.specs.declared.ids.Kind.{Kind}
use Rattle.next_ids.specs.declared.ids.Node.{Node}
use Rattle.next_ids.specs.declared.ids.Node.TheVariants.{Dir, File}
use Rattle.next_ids.specs.declared.ids.PlaceNo.{PlaceNo}
use Rattle.next_ids.specs.declared.ids.Stamp.{Stamp}
use Rattle.next_ids.specs.declared.note.MarkNote.{MarkNote}
use Rattle.next_ids.specs.declared.counts.Counts.{Counts}
use Rattle.next_ids.specs.declared.time.Ts.{Ts}
use Rattle.next_ids.specs.Maps.{row_key, lies_in}
use Rattle.next_ids.specs.Namespace.{is_node}
use Rattle.next_ids.specs.Times.{ts_at}
use Rattle.next_steps.specs.declared.contents.DirRec.{DirRec}
use Rattle.next_steps.specs.declared.contents.Debt.{Debt}
use Rattle.next_steps.specs.declared.contents.Row.{Row}
use Rattle.next_steps.specs.declared.contents.RowLock.{RowLock}
use Rattle.next_steps.specs.declared.ask.Ask.{Ask}
use Rattle.next_steps.specs.declared.ask.Ask.TheVariants as ask
use Rattle.next_steps.specs.declared.answer.Answer.{Answer}
use Rattle.next_steps.specs.declared.answer.Answer.TheVariants as answer
use Rattle.next_steps.specs.Asks.{place_of}
use Rattle.next_steps.specs.Removers.{note_of}
use Rattle.next_rules.specs.Contents.{Shard, Served, unmoved, changed, made_at, debt_key}
use Rattle.next_rules.specs.Changes.{set_row, cut_row, node_in, nodes_in, cut_rec, update, end_lock}
use Rattle.next_rules.specs.Room.{Room, HasRoom, IsFull, DependsOn, room_in}
use Rattle.next_rules.specs.Locks.{holder, source_at, source_in, lock_at, lock_in, other_in, list_lock, insert_lock, swap_lock, row_lock}
use Rattle.next_rules.specs.Reading.{mark_in, lies_at, read_row, list_rows, look_at}
use Rattle.next_rules.specs.Primitives.{new_dir, inserted, deleted, swapped, swap_onto, swap_from}
use Rattle.next_rules.specs.Removing.{has_rows, marked, removed, names_it}
use Rattle.next_rules.specs.Owning.{settled_dir, owner_in, taken_back_dir, dropped_rec, cleared}
use Rattle.next_rules.specs.Locking.{rec_locked, rows_matter, is_wanted, row_locked, has_no_link, is_job, rec_unlocked, up_from}
use Rattle.next_rules.specs.Moving.{has_target, taken, committed, rebased}
use Rattle.next_rules.specs.Places.{serve_shard}
use Rattle.next_rules.specs.Worlds.{stamped}
use Rattle.next_rules.specs.Setups.{AreCounts}
use Rattle.next_laws_reach.proofs.Maps.{IfThere}
use Rattle.next_laws_reach.proofs.There.{IsShard, IsVisited, DirThere, NodeThere, NoteThere, BackThere, RowThere, RecThere, ShardThere, AskThere, AnswerThere, ServedThere}
use Rattle.next_laws_reach.proofs.Changes.{row_found, rec_found, nodes_found, node_found, row-set, row-cut, rec-set, rec-cut, updated, all-merged, lock-set, lock-cut, debt-left, debt-ended, name-taken, committed-there}
use Rattle.next_laws_reach.proofs.Strays.{shard-strays_there}

module _ (counts : Counts) (good : AreCounts counts) where
  pub root_there : IsShard counts 0
  root_there = let some = good.shards.0 in grind (arith, nat_tests)

  mark_found : (d : ℕ) (o : Option DirRec) → IfThere (RecThere counts d) o → IfThere (NoteThere counts) (mark_in o)
  mark_found d None h = tt
  mark_found d (Some r) h = h.2

  module _ (place : ℕ) where
    abbrev Fine : Served Shard → Type 0
    Fine s = ServedThere counts (ShardThere counts) place s

    quiet : (s : Shard) (a : Answer) → ShardThere counts s → AnswerThere counts place a → Fine (unmoved s a)
    quiet s a h there = record { contents = h; answer = there }

    -- ---- reading
    read-there : (o : Option JobNo) (key : List ℕ) (row : Option Row) → IfThere (RowThere counts key) row → AnswerThere counts place (read_row o row)
    read-there (Some job) key row h = tt
    read-there None key None h = tt
    read-there None key (Some row) h = h

    list-there : (s : Shard) (dir : DirId) (o : Option DirRec) (mark : Option MarkNote) (lock : Option JobNo) → IfThere (NoteThere counts) mark → AnswerThere counts place (list_rows s dir o mark lock)
    list-there s dir None mark lock h = tt
    list-there s dir (Some r) (Some note) lock h = h
    list-there s dir (Some r) None (Some job) h = tt
    list-there s dir (Some r) None None h = tt

    look-there : (o : Option DirRec) (lock : Option JobNo) (here : Bool) (mark : Option MarkNote) (source : Option JobNo) → IfThere (NoteThere counts) mark → AnswerThere counts place (look_at o lock here mark source)
    look-there None lock here mark source h = tt
    look-there (Some r) (Some job) here mark source h = tt
    look-there (Some r) None false mark source h = tt
    look-there (Some r) None true (Some note) source h = h
    look-there (Some r) None true None (Some job) h = tt
    look-there (Some r) None true None None h = tt

    up-there : (d : ℕ) (o : Option DirRec) → IfThere (RecThere counts d) o → AnswerThere counts place (up_from o)
    up-there d None h = tt
    up-there d (Some r) h = by_back r.back h.1
      where
        by_back : (back : Option (DirId × List ℕ)) → IfThere (BackThere counts) back → AnswerThere counts place (up_from (Some (record r { back = back })))
        by_back None b = tt
        by_back (Some back) b = b

    names-there : (b : Bool) → AnswerThere counts place (if b then answer.Yes else answer.No)
    names-there true = tt
    names-there false = tt

    module _ (s : Shard) (h : ShardThere counts s) where
      -- ---- a directory's rows
      insert-there : (at : Stamp) (c : Client) (dir : DirId) (name : List ℕ) (node : Node) (ts : Ts) → NodeThere counts node → (o : Option DirRec) (mark : Option MarkNote) (lock : Option JobNo) (row : Option Row) (room : Room)
          → IfThere (RecThere counts dir.0) o → IfThere (NoteThere counts) mark → Fine (inserted s at c dir name node ts o mark lock row room)
      insert-there at c dir name node ts here None mark lock row room r m = quiet s answer.NoDir h tt
      insert-there at c dir name node ts here (Some rec) (Some note) lock row room r m = quiet s (answer.Leaving note) h m
      insert-there at c dir name node ts here (Some rec) None (Some job) row room r m = quiet s (answer.Locked job) h tt
      insert-there at c dir name node ts here (Some rec) None None (Some row) room r m = quiet s answer.Exists h tt
      insert-there at c dir name node ts here (Some rec) None None None IsFull r m = quiet s answer.Full h tt
      insert-there at c dir name node ts here (Some rec) None None None (DependsOn job) r m = quiet s (answer.Locked job) h tt
      insert-there at c dir name node ts here (Some rec) None None None HasRoom r m = record {
        contents = updated counts (set_row s dir name node at) dir (node ∷ []) [] ts (Some rec) r (row-set counts s dir name node at here h);
        answer = tt;
      }

      delete-there : (at : Stamp) (c : Client) (dir : DirId) (name : List ℕ) (ts : Ts) (lock : Option JobNo) (found : Option Node) → IfThere (NodeThere counts) found → Fine (deleted s at c dir name ts lock found)
      delete-there at c dir name ts (Some job) found f = quiet s (answer.Locked job) h tt
      delete-there at c dir name ts None None f = quiet s answer.Absent h tt
      delete-there at c dir name ts None (Some (Dir child)) f = quiet s answer.IsDir h tt
      delete-there at c dir name ts None (Some (File file)) f = record {
        contents = debt-left counts (update (cut_row s dir name) dir [] (File file ∷ []) ts (get s.recs dir.0)) (ClientActor c) at (File file) f
            (updated counts (cut_row s dir name) dir [] (File file ∷ []) ts (get s.recs dir.0) (rec_found counts s dir.0 h) (row-cut counts s dir name h));
        answer = f;
      }

      swapped-there : (at : Stamp) (dir : DirId) (name to_name : List ℕ) (ts : Ts) (gone : List Node) (file : FileId) → NodeThere counts (File file) → ShardThere counts (swapped s at dir name to_name ts gone file)
      swapped-there at dir name to_name ts gone file f =
          updated counts (set_row (cut_row s dir name) dir to_name (File file) at) dir (File file ∷ []) (File file ∷ gone) ts (get s.recs dir.0) (rec_found counts s dir.0 h)
          (row-set counts (cut_row s dir name) dir to_name (File file) at f (row-cut counts s dir name h))

      onto-there : (at : Stamp) (c : Client) (dir : DirId) (name to_name : List ℕ) (ts : Ts) (file : FileId) → NodeThere counts (File file) → (old : Option Node) → IfThere (NodeThere counts) old → Fine (swap_onto s at c dir name to_name ts file old)
      onto-there at c dir name to_name ts file f (Some (Dir old)) o = quiet s answer.TargetIsDir h tt
      onto-there at c dir name to_name ts file f (Some (File old)) o = record {
        contents = debt-left counts (swapped s at dir name to_name ts (File old ∷ []) file) (ClientActor c) at (File old) o (swapped-there at dir name to_name ts (File old ∷ []) file f);
        answer = o;
      }
      onto-there at c dir name to_name ts file f None o = record { contents = swapped-there at dir name to_name ts [] file f; answer = tt }

      swap-there : (at : Stamp) (c : Client) (dir : DirId) (name to_name : List ℕ) (ts : Ts) (lock : Option JobNo) (found : Option Node) (same : Bool) (old : Option Node) → IfThere (NodeThere counts) found → IfThere (NodeThere counts) old
          → Fine (swap_from s at c dir name to_name ts lock found same old)
      swap-there at c dir name to_name ts (Some job) found same old f o = quiet s (answer.Locked job) h tt
      swap-there at c dir name to_name ts None None same old f o = quiet s answer.Absent h tt
      swap-there at c dir name to_name ts None (Some node) true old f o = quiet s answer.Same h tt
      swap-there at c dir name to_name ts None (Some (Dir child)) false old f o = quiet s answer.SourceIsDir h tt
      swap-there at c dir name to_name ts None (Some (File file)) false old f o = onto-there at c dir name to_name ts file f old o

      -- ---- removing a directory
      mark-there : (note : MarkNote) → NoteThere counts note → (o : Option DirRec) (lock : Option JobNo) (here : Bool) (mark : Option MarkNote) (inner : Option JobNo) (rows : Bool)
          → IfThere (RecThere counts note.child.0) o → IfThere (NoteThere counts) mark → Fine (marked s note o lock here mark inner rows)
      mark-there note n None lock here mark inner rows r m = quiet s answer.Gone h tt
      mark-there note n (Some rec) (Some job) here mark inner rows r m = quiet s (answer.Locked job) h tt
      mark-there note n (Some rec) None false mark inner rows r m = quiet s answer.Gone h tt
      mark-there note n (Some rec) None true (Some other) inner rows r m = quiet s (answer.Leaving other) h m
      mark-there note n (Some rec) None true None (Some job) rows r m = quiet s (answer.Locked job) h tt
      mark-there note n (Some rec) None true None None true r m = quiet s answer.NotEmpty h tt
      mark-there note n (Some rec) None true None None false r m = record { contents = rec-set counts s note.child (record rec { mark = Some note }) (r.0, r.1, n) h; answer = tt }

      remove-there : (at : Stamp) (note : MarkNote) → NoteThere counts note → (debt : Option Debt) (named : Bool) → Fine (removed s at note debt named)
      remove-there at note n (Some debt) named = quiet s (answer.Already debt.stamp) h tt
      remove-there at note n None true = record {
        contents = debt-left counts (update (cut_row s note.dir note.name) note.dir [] (Dir note.child ∷ []) note.ts (get s.recs note.dir.0)) (ClientActor note.owner) at (Dir note.child) n.0
            (updated counts (cut_row s note.dir note.name) note.dir [] (Dir note.child ∷ []) note.ts (get s.recs note.dir.0) (rec_found counts s note.dir.0 h) (row-cut counts s note.dir note.name h));
        answer = tt;
      }
      remove-there at note n None false = quiet s answer.Absent h tt

      -- ---- ownership and clean-up
      settle-there : (dir : DirId) (o : Option DirRec) (owner : Option Client) → IfThere (RecThere counts dir.0) o → Fine (settled_dir s dir o owner)
      settle-there dir None owner r = quiet s answer.None h tt
      settle-there dir (Some rec) None r = quiet s answer.None h tt
      settle-there dir (Some rec) (Some client) r = record { contents = rec-set counts s dir (record rec { owner = None }) r h; answer = tt }

      take_back-there : (client : Client) (dir : DirId) (owner : Option Client) → Fine (taken_back_dir s client dir owner)
      take_back-there client dir None = quiet s answer.None h tt
      take_back-there client dir (Some owner) = by_test (owner.0 == client.0)
        where
          by_test : (b : Bool) → Fine (if b then changed (answer.Done None) (cut_rec s dir) else unmoved s answer.None)
          by_test true = record { contents = rec-cut counts s dir h; answer = tt }
          by_test false = quiet s answer.None h tt

      drop-there : (dir : DirId) (o : Option DirRec) → Fine (dropped_rec s dir o)
      drop-there dir None = quiet s answer.None h tt
      drop-there dir (Some r) = record { contents = rec-cut counts s dir h; answer = tt }

      clear-there : (at : PlaceNo) (node : Node) (o : Option Debt) → Fine (cleared s at node o)
      clear-there at node None = quiet s answer.None h tt
      clear-there at node (Some debt) = record { contents = debt-ended counts s at node h; answer = tt }

      -- ---- locks of the Renamer
      rec_lock-there : (job : JobNo) (child : DirId) (kind : Kind) (o : Option DirRec) (lock : Option JobNo) (here : Bool) (mark : Option MarkNote) (inner : Option JobNo) (rows : Bool)
          → IfThere (RecThere counts child.0) o → IfThere (NoteThere counts) mark → Fine (rec_locked s job child kind o lock here mark inner rows)
      rec_lock-there job child kind None lock here mark inner rows r m = quiet s answer.Gone h tt
      rec_lock-there job child kind (Some rec) (Some other) here mark inner rows r m = quiet s (answer.Locked other) h tt
      rec_lock-there job child kind (Some rec) None false mark inner rows r m = quiet s answer.Gone h tt
      rec_lock-there job child kind (Some rec) None true (Some note) inner rows r m = quiet s (answer.Leaving note) h m
      rec_lock-there job child kind (Some rec) None true None (Some other) rows r m = quiet s (answer.Locked other) h tt
      rec_lock-there job child kind (Some rec) None true None None true r m = quiet s answer.NotEmpty h tt
      rec_lock-there job child kind (Some rec) None true None None false r m = record { contents = rec-set counts s child (record rec { lock = Some (job, kind); owner = None }) r h; answer = tt }

      row_lock-there : (dir : DirId) (name : List ℕ) (new : RowLock) (found : Option Node) (o : Option DirRec) (mark : Option MarkNote) (lock : Option JobNo) (wanted full : Bool)
          → IfThere (NodeThere counts) found → IfThere (NoteThere counts) mark → Fine (row_locked s dir name new found o mark lock wanted full)
      row_lock-there dir name new found None mark lock wanted full f m = quiet s answer.NoDir h tt
      row_lock-there dir name new found (Some r) (Some note) lock wanted full f m = quiet s (answer.Leaving note) h m
      row_lock-there dir name new found (Some r) None (Some other) wanted full f m = quiet s (answer.Locked other) h tt
      row_lock-there dir name new found (Some r) None None false full f m = quiet s (answer.Changed found) h f
      row_lock-there dir name new found (Some r) None None true true f m = quiet s answer.Full h tt
      row_lock-there dir name new found (Some r) None None true false f m = record { contents = lock-set counts s dir name new h; answer = tt }

      row_unlock-there : (dir : DirId) (name : List ℕ) (b : Bool) → Fine (if b then changed (answer.Done None) (end_lock s dir name) else unmoved s answer.None)
      row_unlock-there dir name true = record { contents = lock-cut counts s dir name h; answer = tt }
      row_unlock-there dir name false = quiet s answer.None h tt

      rec_unlock-there : (child : DirId) (own : Bool) (o : Option DirRec) → IfThere (RecThere counts child.0) o → Fine (rec_unlocked s child own o)
      rec_unlock-there child own None r = quiet s answer.None h tt
      rec_unlock-there child false (Some rec) r = quiet s answer.None h tt
      rec_unlock-there child true (Some rec) r = record { contents = rec-set counts s child (record rec { lock = None }) r h; answer = tt }

      -- ---- a rename by the Renamer
      commit-there : (at : Stamp) (job : JobNo) (c : Client) (dir : DirId) (name : List ℕ) (to_dir : DirId) (to_name : List ℕ) (node : Node) (ts : Ts) → NodeThere counts node → (target : Bool) (old : Option Row)
          → IfThere (RowThere counts (row_key to_dir to_name)) old → Fine (committed s at job c dir name to_dir to_name node ts target old)
      commit-there at job c dir name to_dir to_name node ts here false old o = quiet s answer.None h tt
      commit-there at job c dir name to_dir to_name node ts here true old o = record {
        contents = committed-there counts (dir.0 == to_dir.0) (taken s at job to_dir to_name node (nodes_in old)) dir name to_dir node (nodes_in old) ts
            (name-taken counts s at job to_dir to_name node (nodes_in old) here (nodes_found counts (row_key to_dir to_name) old o) h);
        answer = node_found counts (row_key to_dir to_name) old o;
      }

      cut-there : (dir : DirId) (name : List ℕ) (ts : Ts) (b : Bool) → Fine (if b
          then changed (answer.Done None) (update (end_lock (cut_row s dir name) dir name) dir [] (nodes_in (get s.rows (row_key dir name))) ts (get s.recs dir.0))
          else unmoved s answer.None)
      cut-there dir name ts true = record {
        contents = updated counts (end_lock (cut_row s dir name) dir name) dir [] (nodes_in (get s.rows (row_key dir name))) ts (get s.recs dir.0) (rec_found counts s dir.0 h)
            (lock-cut counts (cut_row s dir name) dir name (row-cut counts s dir name h));
        answer = tt;
      }
      cut-there dir name ts false = quiet s answer.None h tt

      rebase-there : (child : DirId) (back : DirId × List ℕ) → DirThere counts back.0 → (own : Bool) (o : Option DirRec) → IfThere (RecThere counts child.0) o → Fine (rebased s child back own o)
      rebase-there child back b own None r = quiet s answer.None h tt
      rebase-there child back b false (Some rec) r = quiet s answer.None h tt
      rebase-there child back b true (Some rec) r = record { contents = rec-set counts s child (record rec { back = Some back; lock = None }) (r.0, b, r.2) h; answer = tt }

  -- ---- the table
  abbrev marked_in : (s : Shard) (d : ℕ) → ShardThere counts s → IfThere (NoteThere counts) (mark_in (get s.recs d))
  marked_in s d h = mark_found d (get s.recs d) (rec_found counts s d h)

  named_at : (s : Shard) (key : List ℕ) → ShardThere counts s → IfThere (NodeThere counts) (node_in (get s.rows key))
  named_at s key h = node_found counts key (get s.rows key) (row_found counts s key h)

  visited_shard : (n : ℕ) → nat_lt n 64 ≡ true → IsVisited counts n → IsShard counts n
  visited_shard n low (inl shard) = shard
  visited_shard n low (inr store) = let above = store.0 in let below : n < 64 = grind (arith, nat_tests) in let none : 64 ≤ n = grind (arith, nat_tests) in absurd (omega arith)

  new_index : (number n : ℕ) → IsShard counts n → IsShard counts ((64 * number + n % 64) % 64)
  new_index number n h =
      let few = good.shards.1 in
      let low : n < counts.shards = grind (arith, nat_tests) in
      let same : (64 * number + n % 64) % 64 ≡ n = omega arith in
      rw same h

  pub shard-serves : (s : Shard) (number moment : ℕ) (a : Ask) → nat_lt (place_of a).0 64 ≡ true → AskThere counts a → ShardThere counts s → ServedThere counts (ShardThere counts) (place_of a).0 (serve_shard s (stamped number a) moment a)
  shard-serves s number moment (ask.Read dir name) low there h = quiet _ s _ h (read-there _ (source_at s dir name) (row_key dir name) (get s.rows (row_key dir name)) (row_found counts s (row_key dir name) h))
  shard-serves s number moment (ask.List dir) low there h = quiet _ s _ h (list-there _ s dir (get s.recs dir.0) (mark_in (get s.recs dir.0)) (list_lock s dir) (marked_in s dir.0 h))
  shard-serves s number moment (ask.Look dir back) low there h =
      quiet _ s _ h (look-there _ (get s.recs dir.0) (holder (get s.recs dir.0)) (lies_at back (get s.recs dir.0)) (mark_in (get s.recs dir.0)) (source_in s dir) (marked_in s dir.0 h))
  shard-serves s number moment (ask.PutDir client place dir name) low there h =
      let here = new_index number place.0 there.0 in
      let at = stamped number (ask.PutDir client place dir name) in
      record { contents = rec-set counts s (record { 0 = made_at at }) (new_dir client dir name (ts_at moment number)) (here, there.1, tt) h; answer = here }
  shard-serves s number moment (ask.Insert client dir name node ts) low there h =
      insert-there _ s h _ client dir name node ts there.1 (get s.recs dir.0) (mark_in (get s.recs dir.0)) (insert_lock s dir name) (get s.rows (row_key dir name)) (room_in s dir node) (rec_found counts s dir.0 h) (marked_in s dir.0 h)
  shard-serves s number moment (ask.Delete client dir name ts) low there h = delete-there _ s h _ client dir name ts (lock_at s dir name) (node_in (get s.rows (row_key dir name))) (named_at s (row_key dir name) h)
  shard-serves s number moment (ask.Swap client dir name to_name ts) low there h =
      swap-there _ s h _ client dir name to_name ts (swap_lock s dir name to_name) (node_in (get s.rows (row_key dir name))) (bytes_eq name to_name) (node_in (get s.rows (row_key dir to_name)))
      (named_at s (row_key dir name) h) (named_at s (row_key dir to_name) h)
  shard-serves s number moment (ask.Mark client child dir name ts) low there h =
      mark-there _ s h (note_of client dir name child ts) there (get s.recs child.0) (holder (get s.recs child.0)) (lies_at (Some (dir, name)) (get s.recs child.0)) (mark_in (get s.recs child.0)) (lock_in s child) (has_rows s child)
      (rec_found counts s child.0 h) (marked_in s child.0 h)
  shard-serves s number moment (ask.Remove note) low there h =
      remove-there _ s h (stamped number (ask.Remove note)) note there (get s.debts (debt_key (place_of (ask.Remove note)) (Dir note.child))) (names_it note.child (node_in (get s.rows (row_key note.dir note.name))))
  shard-serves s number moment (ask.Settle (Dir dir)) low there h = settle-there _ s h dir (get s.recs dir.0) (owner_in (get s.recs dir.0)) (rec_found counts s dir.0 h)
  shard-serves s number moment (ask.TakeBack client (Dir dir)) low there h = take_back-there _ s h client dir (owner_in (get s.recs dir.0))
  shard-serves s number moment (ask.DropOwed client (Dir dir)) low there h = take_back-there _ s h client dir (owner_in (get s.recs dir.0))
  shard-serves s number moment (ask.DropRec dir) low there h = drop-there _ s h dir (get s.recs dir.0)
  shard-serves s number moment (ask.Clear place node) low there h = clear-there _ s h place node (get s.debts (debt_key place node))
  shard-serves s number moment (ask.Merge place) low there h = record { contents = all-merged counts s place h; answer = tt }
  shard-serves s number moment (ask.LockRec job child dir name kind) low there h =
      rec_lock-there _ s h job child kind (get s.recs child.0) (holder (get s.recs child.0)) (lies_at (Some (dir, name)) (get s.recs child.0)) (mark_in (get s.recs child.0)) (other_in job kind s child) (rows_matter kind (has_rows s child))
      (rec_found counts s child.0 h) (marked_in s child.0 h)
  shard-serves s number moment (ask.LockRow job dir name side want reserves) low there h =
      row_lock-there _ s h dir name (record { job = job; side = side; reserves = reserves }) (node_in (get s.rows (row_key dir name))) (get s.recs dir.0) (mark_in (get s.recs dir.0)) (row_lock job s dir name)
      (is_wanted want (node_in (get s.rows (row_key dir name)))) (reserves && has_no_link (get s.recs dir.0)) (named_at s (row_key dir name) h) (marked_in s dir.0 h)
  shard-serves s number moment (ask.Commit job client dir name to_dir to_name node ts) low there h =
      commit-there _ s h _ job client dir name to_dir to_name node ts there.1 (has_target job (get s.locks (row_key to_dir to_name))) (get s.rows (row_key to_dir to_name)) (row_found counts s (row_key to_dir to_name) h)
  shard-serves s number moment (ask.CutSource job dir name ts) low there h = cut-there _ s h dir name ts (is_job job (source_at s dir name))
  shard-serves s number moment (ask.Rebase job child dir name) low there h = rebase-there _ s h child (dir, name) there.1 (is_job job (holder (get s.recs child.0))) (get s.recs child.0) (rec_found counts s child.0 h)
  shard-serves s number moment (ask.UnlockRow job dir name) low there h = row_unlock-there _ s h dir name (is_job job (lock_at s dir name))
  shard-serves s number moment (ask.UnlockRec job child) low there h = rec_unlock-there _ s h child (is_job job (holder (get s.recs child.0))) (get s.recs child.0) (rec_found counts s child.0 h)
  shard-serves s number moment (ask.Up dir) low there h = quiet _ s _ h (up-there _ dir.0 (get s.recs dir.0) (rec_found counts s dir.0 h))
  shard-serves s number moment (ask.Strays place clients) low there h = quiet _ s _ h (shard-strays_there counts root_there place.0 place clients s (visited_shard place.0 low there) h)
  shard-serves s number moment (ask.Names dir node) low there h = quiet _ s _ h (names-there _ (list_any (λ e. lies_in dir.0 e.0 && is_node node e.1.node) (entries s.rows)))
  shard-serves s number moment a low there h = quiet _ s answer.None h tt
