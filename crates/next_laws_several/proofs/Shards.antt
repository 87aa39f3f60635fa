-- A shard serves each ask of its own as all shards together do.
use Rattle.std.proofs.Common.{◌≡◌, ℕ, ◌<◌, List, [], Bool, ap, arith}
use Rattle.std.specs.Prelude.{◌&&◌, Some, None, if◌then◌else◌}
use Rattle.std.specs.Str.{bytes_eq}
use Rattle.std.specs.FinMap.{get}
use Rattle.next_ids.specs.declared.ids.DirId.{DirId}
use Rattle.next_ids.specs.declared.ids.Stamp.{Stamp}
use Rattle.next_ids.specs.declared.ids.Node.{Node}
use Rattle.next_ids.specs.declared.ids.Node.TheVariants.{Dir}
use Rattle.next_ids.specs.declared.note.MarkNote.{MarkNote}
use Rattle.next_ids.specs.Maps.{row_key}
use Rattle.next_ids.specs.declared.time.Ts.{Ts}
use Rattle.next_ids.specs.Times.{ts_at}
use Rattle.next_steps.specs.declared.ask.Ask.{Ask}
use Rattle.next_steps.specs.declared.ask.Ask.TheVariants as ask
use Rattle.next_steps.specs.declared.answer.Answer.TheVariants as answer
use Rattle.next_steps.specs.Asks.{place_of}
use Rattle.next_steps.specs.Removers.{note_of}
use Rattle.next_rules.specs.Contents.{Shard, Served, unmoved, changed, made_at, debt_key}
use Rattle.next_rules.specs.Changes.{node_in, nodes_in, cut_row, end_lock, update}
use Rattle.next_rules.specs.Homes.{home_of_number}
use Rattle.next_rules.specs.Reading.{mark_in, lies_at}
use Rattle.next_rules.specs.Locks.{holder}
use Rattle.next_rules.specs.Primitives.{new_dir, inserted, deleted, swap_from}
use Rattle.next_rules.specs.Removing.{names_it, marked, mark_rec, removed}
use Rattle.next_rules.specs.Owning.{owner_in, settled_dir, taken_back_dir, take_back_dir, dropped_rec, cleared}
use Rattle.next_rules.specs.Locking.{rows_matter, is_wanted, has_no_link, is_job, rec_locked, row_locked, rec_unlocked}
use Rattle.next_rules.specs.Moving.{has_target, committed, rebased}
use Rattle.next_rules.specs.Places.{serve_shard}
use Rattle.next_laws_several.proofs.Changed.{Alike, Serves, looks, makes, via, set_rec-alike}
use Rattle.next_laws_several.proofs.Lookups.{row-alike, rec-alike, lock-alike, has_rows-alike, names_node-alike, source_at-alike, lock_at-alike, lock_in-alike, other_in-alike, insert_lock-alike, swap_lock-alike, row_lock-alike, room-alike, read-alike, list-alike, look-alike, up-alike, strays-alike}
use Rattle.next_laws_several.proofs.Tables.{inserted-alike, deleted-alike, swap_from-alike, marked-alike, removed-alike, settled-alike, taken_back-alike, dropped-alike, cleared-alike, merge-alike, rec_locked-alike, row_locked-alike, row_unlocked-alike, rec_unlocked-alike, rebased-alike, source_cut-alike, committed-alike}

made_home : (index : ℕ) (at : Stamp) → at.place.0 ≡ index → index < 64 → home_of_number (made_at at) ≡ index
made_home index at is low = omega arith

module _ (index : ℕ) (v s w : Shard) (a : Alike index v s w) (at : Stamp) (moment : ℕ) (own : at.place.0 ≡ index) (low : index < 64) where
  abbrev Same : Ask → Type 0
  Same x = Serves index v (serve_shard s at moment x) (serve_shard w at moment x)

  abbrev rec : (dir : DirId) → home_of_number dir.0 ≡ index → get w.recs dir.0 ≡ get s.recs dir.0
  rec dir home = rec-alike index v s w a dir home

  abbrev row : (dir : DirId) (name : List ℕ) → home_of_number dir.0 ≡ index → get w.rows (row_key dir name) ≡ get s.rows (row_key dir name)
  row dir name home = row-alike index v s w a dir name home

  take_back : (client : _) (dir : DirId) → home_of_number dir.0 ≡ index → Serves index v (take_back_dir s client dir) (take_back_dir w client dir)
  take_back client dir home =
      via (λ i. taken_back_dir w client dir (owner_in (rec dir home i))) (taken_back-alike index v s w a client dir home (owner_in (get s.recs dir.0)))

  mark : (note : MarkNote) → home_of_number note.child.0 ≡ index → Serves index v (mark_rec s note) (mark_rec w note)
  mark note home =
      let r = rec note.child home in
      let inner = lock_in-alike index v s w a note.child home in
      let rows = has_rows-alike index v s w a note.child home in
      via (λ i. marked w note (r i) (holder (r i)) (lies_at (Some (note.dir, note.name)) (r i)) (mark_in (r i)) (inner i) (rows i))
      (marked-alike index v s w a note home _ _ _ _ _ _)

  debt : (node : Node) → get w.debts (debt_key at.place node) ≡ get s.debts (debt_key at.place node)
  debt node = a.debts.here (debt_key at.place node) own

  abbrev cut_by : DirId → List ℕ → Ts → Bool → Served Shard
  cut_by dir name ts own =
      if own
      then changed (answer.Done None) (update (end_lock (cut_row w dir name) dir name) dir [] (nodes_in (get w.rows (row_key dir name))) ts (get w.recs dir.0))
      else unmoved w answer.None

  abbrev unlocked_by : DirId → List ℕ → Bool → Served Shard
  unlocked_by dir name own = if own then changed (answer.Done None) (end_lock w dir name) else unmoved w answer.None

  pub serves-alike : (x : Ask) → (place_of x).0 ≡ index → Same x
  serves-alike (ask.Read dir name) home = via (ap (unmoved w) (read-alike index v s w a dir name home)) (looks a _)
  serves-alike (ask.List dir) home = via (ap (unmoved w) (list-alike index v s w a dir home)) (looks a _)
  serves-alike (ask.Look dir back) home = via (ap (unmoved w) (look-alike index v s w a dir back home)) (looks a _)
  serves-alike (ask.PutDir client place dir name) home = makes (set_rec-alike a (record { 0 = made_at at }) (new_dir client dir name (ts_at moment at.number)) (made_home index at own low)) _
  serves-alike (ask.Insert client dir name node ts) home =
      let r = rec dir home in
      let lock = insert_lock-alike index v s w a dir name home in
      let old = row dir name home in
      let room = room-alike index v s w a dir node home in
      via (λ i. inserted w at client dir name node ts (r i) (mark_in (r i)) (lock i) (old i) (room i)) (inserted-alike index v s w a at client dir name node ts home _ _ _ _ _)
  serves-alike (ask.Delete client dir name ts) home =
      let lock = lock_at-alike index v s w a dir name home in
      let old = row dir name home in
      via (λ i. deleted w at client dir name ts (lock i) (node_in (old i))) (deleted-alike index v s w a at client dir name ts home own _ _)
  serves-alike (ask.Swap client dir name to_name ts) home =
      let lock = swap_lock-alike index v s w a dir name to_name home in
      let from = row dir name home in
      let to = row dir to_name home in
      via (λ i. swap_from w at client dir name to_name ts (lock i) (node_in (from i)) (bytes_eq name to_name) (node_in (to i))) (swap_from-alike index v s w a at client dir name to_name ts home own _ _ _ _)
  serves-alike (ask.Mark client child dir name ts) home = mark (note_of client dir name child ts) home
  serves-alike (ask.Remove note) home =
      let owed = debt (Dir note.child) in
      let old = row note.dir note.name home in
      via (λ i. removed w at note (owed i) (names_it note.child (node_in (old i)))) (removed-alike index v s w a at note home own _ _)
  serves-alike (ask.Settle (Dir dir)) home =
      let r = rec dir home in
      via (λ i. settled_dir w dir (r i) (owner_in (r i))) (settled-alike index v s w a dir home _ _)
  serves-alike (ask.TakeBack client (Dir dir)) home = take_back client dir home
  serves-alike (ask.DropOwed client (Dir dir)) home = take_back client dir home
  serves-alike (ask.DropRec dir) home = via (λ i. dropped_rec w dir (rec dir home i)) (dropped-alike index v s w a dir home _)
  serves-alike (ask.Clear place node) home = via (λ i. cleared w at.place node (debt node i)) (cleared-alike index v s w a at.place node own _)
  serves-alike (ask.Merge place) home = merge-alike index v s w a at.place own
  serves-alike (ask.LockRec job child dir name kind) home =
      let r = rec child home in
      let inner = other_in-alike index v s w a job kind child home in
      let rows = has_rows-alike index v s w a child home in
      via (λ i. rec_locked w job child kind (r i) (holder (r i)) (lies_at (Some (dir, name)) (r i)) (mark_in (r i)) (inner i) (rows_matter kind (rows i)))
      (rec_locked-alike index v s w a job child kind home _ _ _ _ _ _)
  serves-alike (ask.LockRow job dir name side want reserves) home =
      let r = rec dir home in
      let lock = row_lock-alike index v s w a job dir name home in
      let old = row dir name home in
      via (λ i. row_locked w dir name (record { job = job; side = side; reserves = reserves }) (node_in (old i)) (r i) (mark_in (r i)) (lock i) (is_wanted want (node_in (old i))) (reserves && has_no_link (r i)))
      (row_locked-alike index v s w a dir name _ home _ _ _ _ _ _)
  serves-alike (ask.Commit job client dir name to_dir to_name node ts) home =
      let lock = lock-alike index v s w a to_dir to_name home in
      let old = row to_dir to_name home in
      via (λ i. committed w at job client dir name to_dir to_name node ts (has_target job (lock i)) (old i)) (committed-alike index v s w a at job client dir name to_dir to_name node ts home own _ _)
  serves-alike (ask.CutSource job dir name ts) home =
      let lock = source_at-alike index v s w a dir name home in
      via (λ i. cut_by dir name ts (is_job job (lock i))) (source_cut-alike index v s w a dir name ts home _)
  serves-alike (ask.Rebase job child dir name) home =
      let r = rec child home in
      via (λ i. rebased w child (dir, name) (is_job job (holder (r i))) (r i)) (rebased-alike index v s w a child (dir, name) home _ _)
  serves-alike (ask.UnlockRow job dir name) home =
      let lock = lock_at-alike index v s w a dir name home in
      via (λ i. unlocked_by dir name (is_job job (lock i))) (row_unlocked-alike index v s w a dir name home _)
  serves-alike (ask.UnlockRec job child) home =
      let r = rec child home in
      via (λ i. rec_unlocked w child (is_job job (holder (r i))) (r i)) (rec_unlocked-alike index v s w a child home _ _)
  serves-alike (ask.Up dir) home = via (ap (unmoved w) (up-alike index v s w a dir home)) (looks a _)
  serves-alike (ask.Strays place clients) home = via (ap (unmoved w) (strays-alike index v s w a at.place own clients)) (looks a _)
  serves-alike (ask.Names dir node) home = via (ap (unmoved w) (names_node-alike index v s w a dir node home)) (looks a _)
  serves-alike x home = looks a _
