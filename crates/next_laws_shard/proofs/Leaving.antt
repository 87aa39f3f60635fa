-- What each ask leaves of a shard: the same, or one of these changes.
use Rattle.std.proofs.Common.{◌≡◌, ◌≢◌, ℕ, List, [], ◌∷◌, Bool, true, false, refl, ap, ◌∙◌}
use Rattle.std.specs.Prelude.{◌==◌, if◌then◌else◌, Option, Some, None}
use Rattle.std.specs.Str.{bytes_eq}
use Rattle.std.proofs.lemmas.Slice.Eq.{bytes_eq-Decides}
use Rattle.std.specs.FinMap.{get}
use Rattle.next_ids.specs.declared.ids.Actor.{Actor}
use Rattle.next_ids.specs.declared.ids.Actor.TheVariants.{Client as ClientActor}
use Rattle.next_ids.specs.declared.ids.Client.{Client}
use Rattle.next_ids.specs.declared.ids.DirId.{DirId}
use Rattle.next_ids.specs.declared.ids.FileId.{FileId}
use Rattle.next_ids.specs.declared.ids.JobNo.{JobNo}
use Rattle.next_ids.specs.declared.ids.Kind.{Kind}
use Rattle.next_ids.specs.declared.ids.Node.{Node}
use Rattle.next_ids.specs.declared.ids.Node.TheVariants.{Dir, File}
use Rattle.next_ids.specs.declared.ids.Stamp.{Stamp}
use Rattle.next_ids.specs.declared.note.MarkNote.{MarkNote}
use Rattle.next_ids.specs.declared.time.Ts.{Ts}
use Rattle.next_ids.specs.Maps.{row_key, map_values}
use Rattle.next_ids.specs.Namespace.{is_dir}
use Rattle.next_steps.specs.declared.contents.Debt.{Debt}
use Rattle.next_steps.specs.declared.contents.DirRec.{DirRec}
use Rattle.next_steps.specs.declared.contents.Row.{Row}
use Rattle.next_steps.specs.declared.contents.RowLock.{RowLock}
use Rattle.next_steps.specs.declared.answer.Answer.TheVariants as answer
use Rattle.next_steps.specs.declared.ask.Ask.{Ask}
use Rattle.next_steps.specs.declared.ask.Ask.TheVariants as ask
use Rattle.next_steps.specs.Removers.{note_of}
use Rattle.next_rules.specs.Contents.{Shard, unmoved, changed, made_at}
use Rattle.next_rules.specs.Changes.{set_row, cut_row, node_in, nodes_in, set_rec, cut_rec, update, set_lock, end_lock, leave_debt, leave_debts, end_debt}
use Rattle.next_rules.specs.Locking.{rec_locked, row_locked, rec_unlocked}
use Rattle.next_rules.specs.Moving.{has_target, taken, committed_as, committed, rebased}
use Rattle.next_rules.specs.Owning.{settled_dir, taken_back_dir, dropped_rec, cleared, merged_at}
use Rattle.next_rules.specs.Places.{serve_shard}
use Rattle.next_rules.specs.Primitives.{inserted, deleted, swap_onto, swap_from, swapped}
use Rattle.next_rules.specs.Removing.{marked, removed, names_it}
use Rattle.next_rules.specs.Room.{Room, HasRoom, IsFull, DependsOn}

pub data Leaves (s : Shard) (at : Stamp) : Shard → Type 0 where
  Same : Leaves s at s
  -- a directory is put
  NewRec : (r : DirRec) → r.base.children ≡ 0 → r.base.subdirs ≡ 0 → r.pending ≡ [] → Leaves s at (set_rec s (record { 0 = made_at at }) r)
  -- a record keeps its attributes
  SameAttr : (dir : DirId) (r new : DirRec) → get s.recs dir.0 ≡ Some r → new.base ≡ r.base → new.pending ≡ r.pending → Leaves s at (set_rec s dir new)
  NoRec : (dir : DirId) → Leaves s at (cut_rec s dir)
  AllMerged : Leaves s at (record s { recs = map_values (merged_at at.place) s.recs })
  NoDebt : (node : Node) → Leaves s at (end_debt s at.place node)
  NewLock : (dir : DirId) (name : List ℕ) (lock : RowLock) (r : DirRec) → get s.recs dir.0 ≡ Some r → Leaves s at (set_lock s dir name lock)
  NoLock : (dir : DirId) (name : List ℕ) → Leaves s at (end_lock s dir name)
  -- a row comes to a free name of a directory that has a record
  NewRow : (dir : DirId) (name : List ℕ) (node : Node) (ts : Ts) (r : DirRec) → get s.recs dir.0 ≡ Some r → get s.rows (row_key dir name) ≡ None
      → Leaves s at (update (set_row s dir name node at) dir (node ∷ []) [] ts (Some r))
  -- a row goes, and its node is owed
  NoRow : (dir : DirId) (name : List ℕ) (node : Node) (ts : Ts) (owner : Actor) (row : Row) → get s.rows (row_key dir name) ≡ Some row → is_dir row.node ≡ is_dir node
      → Leaves s at (leave_debt (update (cut_row s dir name) dir [] (node ∷ []) ts (get s.recs dir.0)) owner at node)
  -- a file's row gets another name
  RowMoved : (dir : DirId) (name to_name : List ℕ) (ts : Ts) (file : FileId) (gone : List Node) (owner : Actor) (row : Row) → get s.rows (row_key dir name) ≡ Some row → row.node ≡ File file
      → name ≢ to_name → nodes_in (get s.rows (row_key dir to_name)) ≡ gone → Leaves s at (leave_debts (swapped s at dir name to_name ts gone file) owner at gone)
  -- a rename is committed at a name that is locked
  Committed : (job : JobNo) (dir : DirId) (name : List ℕ) (to_dir : DirId) (to_name : List ℕ) (node : Node) (ts : Ts) (lock : RowLock) → get s.locks (row_key to_dir to_name) ≡ Some lock
      → Leaves s at (committed_as (dir.0 == to_dir.0) (taken s at job to_dir to_name node (nodes_in (get s.rows (row_key to_dir to_name)))) dir name to_dir node (nodes_in (get s.rows (row_key to_dir to_name))) ts)
  -- and its old row goes
  SourceCut : (dir : DirId) (name : List ℕ) (ts : Ts) → Leaves s at (update (end_lock (cut_row s dir name) dir name) dir [] (nodes_in (get s.rows (row_key dir name))) ts (get s.recs dir.0))

false_true : (b : Bool) → b ≡ false → b ≡ true → ⊥
false_true b f t = cc

module _ (s : Shard) (at : Stamp) where
  insert-leaves : (c : Client) (dir : DirId) (name : List ℕ) (node : Node) (ts : Ts) (rec : Option DirRec) → get s.recs dir.0 ≡ rec → (mark : Option MarkNote) (lock : Option JobNo)
      → (row : Option Row) → get s.rows (row_key dir name) ≡ row → (room : Room) → Leaves s at (inserted s at c dir name node ts rec mark lock row room).contents
  insert-leaves c dir name node ts None there mark lock row free room = Same
  insert-leaves c dir name node ts (Some r) there (Some note) lock row free room = Same
  insert-leaves c dir name node ts (Some r) there None (Some job) row free room = Same
  insert-leaves c dir name node ts (Some r) there None None (Some row) free room = Same
  insert-leaves c dir name node ts (Some r) there None None None free IsFull = Same
  insert-leaves c dir name node ts (Some r) there None None None free (DependsOn job) = Same
  insert-leaves c dir name node ts (Some r) there None None None free HasRoom = NewRow dir name node ts r there free

  delete-leaves : (c : Client) (dir : DirId) (name : List ℕ) (ts : Ts) (lock : Option JobNo) (row : Option Row) → get s.rows (row_key dir name) ≡ row → Leaves s at (deleted s at c dir name ts lock (node_in row)).contents
  delete-leaves c dir name ts (Some job) row there = Same
  delete-leaves c dir name ts None None there = Same
  delete-leaves c dir name ts None (Some row) there = by_node row.node refl
    where
      by_node : (node : Node) → row.node ≡ node → Leaves s at (deleted s at c dir name ts None (Some node)).contents
      by_node (Dir child) e = Same
      by_node (File file) e = NoRow dir name (File file) ts (ClientActor c) row there (ap is_dir e)

  swap-leaves : (c : Client) (dir : DirId) (name to_name : List ℕ) (ts : Ts) (lock : Option JobNo) (row : Option Row) → get s.rows (row_key dir name) ≡ row → (same : Bool) → bytes_eq name to_name ≡ same
      → (old : Option Row) → get s.rows (row_key dir to_name) ≡ old → Leaves s at (swap_from s at c dir name to_name ts lock (node_in row) same (node_in old)).contents
  swap-leaves c dir name to_name ts (Some job) row there same alike old other = Same
  swap-leaves c dir name to_name ts None None there same alike old other = Same
  swap-leaves c dir name to_name ts None (Some row) there true alike old other = Same
  swap-leaves c dir name to_name ts None (Some row) there false alike old other = by_node row.node refl
    where
      differ : name ≢ to_name
      differ e = let same = (bytes_eq-Decides name to_name).1 e in false_true (bytes_eq name to_name) alike same

      by_old : (file : FileId) → row.node ≡ File file → (old : Option Row) → get s.rows (row_key dir to_name) ≡ old → Leaves s at (swap_onto s at c dir name to_name ts file (node_in old)).contents
      by_old file e None free = RowMoved dir name to_name ts file [] (ClientActor c) row there e differ (ap nodes_in free)
      by_old file e (Some o) free = by_target o.node refl
        where
          by_target : (node : Node) → o.node ≡ node → Leaves s at (swap_onto s at c dir name to_name ts file (Some node)).contents
          by_target (Dir child) is = Same
          by_target (File gone) is = RowMoved dir name to_name ts file (File gone ∷ []) (ClientActor c) row there e differ (ap nodes_in free ∙ ap (λ n. n ∷ []) is)

      by_node : (node : Node) → row.node ≡ node → Leaves s at (swap_from s at c dir name to_name ts None (Some node) false (node_in old)).contents
      by_node (Dir child) e = Same
      by_node (File file) e = by_old file e old other

  mark-leaves : (note : MarkNote) (rec : Option DirRec) → get s.recs note.child.0 ≡ rec → (lock : Option JobNo) (here : Bool) (mark : Option MarkNote) (inner : Option JobNo) (rows : Bool)
      → Leaves s at (marked s note rec lock here mark inner rows).contents
  mark-leaves note None there lock here mark inner rows = Same
  mark-leaves note (Some r) there (Some job) here mark inner rows = Same
  mark-leaves note (Some r) there None false mark inner rows = Same
  mark-leaves note (Some r) there None true (Some other) inner rows = Same
  mark-leaves note (Some r) there None true None (Some job) rows = Same
  mark-leaves note (Some r) there None true None None true = Same
  mark-leaves note (Some r) there None true None None false = SameAttr note.child r (record r { mark = Some note }) there refl refl

  remove-leaves : (note : MarkNote) (debt : Option Debt) (row : Option Row) → get s.rows (row_key note.dir note.name) ≡ row → Leaves s at (removed s at note debt (names_it note.child (node_in row))).contents
  remove-leaves note (Some debt) row there = Same
  remove-leaves note None None there = Same
  remove-leaves note None (Some row) there = by_node row.node refl
    where
      by_test : (b : Bool) → is_dir row.node ≡ true → Leaves s at (removed s at note None b).contents
      by_test true e = NoRow note.dir note.name (Dir note.child) note.ts (ClientActor note.owner) row there e
      by_test false e = Same

      by_node : (node : Node) → row.node ≡ node → Leaves s at (removed s at note None (names_it note.child (Some node))).contents
      by_node (File file) e = Same
      by_node (Dir child) e = by_test (child.0 == note.child.0) (ap is_dir e)

  settle-leaves : (dir : DirId) (rec : Option DirRec) → get s.recs dir.0 ≡ rec → (owner : Option Client) → Leaves s at (settled_dir s dir rec owner).contents
  settle-leaves dir None there owner = Same
  settle-leaves dir (Some r) there None = Same
  settle-leaves dir (Some r) there (Some client) = SameAttr dir r (record r { owner = None }) there refl refl

  take-leaves : (client : Client) (dir : DirId) (owner : Option Client) → Leaves s at (taken_back_dir s client dir owner).contents
  take-leaves client dir None = Same
  take-leaves client dir (Some owner) = by_test (owner.0 == client.0)
    where
      by_test : (b : Bool) → Leaves s at (if b then changed (answer.Done None) (cut_rec s dir) else unmoved s answer.None).contents
      by_test true = NoRec dir
      by_test false = Same

  drop-leaves : (dir : DirId) (rec : Option DirRec) → Leaves s at (dropped_rec s dir rec).contents
  drop-leaves dir None = Same
  drop-leaves dir (Some r) = NoRec dir

  clear-leaves : (node : Node) (debt : Option Debt) → Leaves s at (cleared s at.place node debt).contents
  clear-leaves node None = Same
  clear-leaves node (Some debt) = NoDebt node

  lock_rec-leaves : (job : JobNo) (child : DirId) (kind : Kind) (rec : Option DirRec) → get s.recs child.0 ≡ rec → (lock : Option JobNo) (here : Bool) (mark : Option MarkNote) (inner : Option JobNo) (rows : Bool)
      → Leaves s at (rec_locked s job child kind rec lock here mark inner rows).contents
  lock_rec-leaves job child kind None there lock here mark inner rows = Same
  lock_rec-leaves job child kind (Some r) there (Some other) here mark inner rows = Same
  lock_rec-leaves job child kind (Some r) there None false mark inner rows = Same
  lock_rec-leaves job child kind (Some r) there None true (Some note) inner rows = Same
  lock_rec-leaves job child kind (Some r) there None true None (Some other) rows = Same
  lock_rec-leaves job child kind (Some r) there None true None None true = Same
  lock_rec-leaves job child kind (Some r) there None true None None false = SameAttr child r (record r { lock = Some (job, kind); owner = None }) there refl refl

  lock_row-leaves : (dir : DirId) (name : List ℕ) (new : RowLock) (found : Option Node) (rec : Option DirRec) → get s.recs dir.0 ≡ rec → (mark : Option MarkNote) (lock : Option JobNo) (wanted full : Bool)
      → Leaves s at (row_locked s dir name new found rec mark lock wanted full).contents
  lock_row-leaves dir name new found None there mark lock wanted full = Same
  lock_row-leaves dir name new found (Some r) there (Some note) lock wanted full = Same
  lock_row-leaves dir name new found (Some r) there None (Some other) wanted full = Same
  lock_row-leaves dir name new found (Some r) there None None false full = Same
  lock_row-leaves dir name new found (Some r) there None None true true = Same
  lock_row-leaves dir name new found (Some r) there None None true false = NewLock dir name new r there

  commit-leaves : (job : JobNo) (c : Client) (dir : DirId) (name : List ℕ) (to_dir : DirId) (to_name : List ℕ) (node : Node) (ts : Ts) (lock : Option RowLock) → get s.locks (row_key to_dir to_name) ≡ lock
      → Leaves s at (committed s at job c dir name to_dir to_name node ts (has_target job lock) (get s.rows (row_key to_dir to_name))).contents
  commit-leaves job c dir name to_dir to_name node ts None there = Same
  commit-leaves job c dir name to_dir to_name node ts (Some lock) there = by_test (has_target job (Some lock))
    where
      by_test : (b : Bool) → Leaves s at (committed s at job c dir name to_dir to_name node ts b (get s.rows (row_key to_dir to_name))).contents
      by_test true = Committed job dir name to_dir to_name node ts lock there
      by_test false = Same

  cut_source-leaves : (job : JobNo) (dir : DirId) (name : List ℕ) (ts : Ts) (own : Bool)
      → Leaves s at (if own then changed (answer.Done None) (update (end_lock (cut_row s dir name) dir name) dir [] (nodes_in (get s.rows (row_key dir name))) ts (get s.recs dir.0)) else unmoved s answer.None).contents
  cut_source-leaves job dir name ts true = SourceCut dir name ts
  cut_source-leaves job dir name ts false = Same

  rebase-leaves : (child : DirId) (back : DirId × List ℕ) (own : Bool) (rec : Option DirRec) → get s.recs child.0 ≡ rec → Leaves s at (rebased s child back own rec).contents
  rebase-leaves child back own None there = Same
  rebase-leaves child back false (Some r) there = Same
  rebase-leaves child back true (Some r) there = SameAttr child r (record r { back = Some back; lock = None }) there refl refl

  unlock_row-leaves : (dir : DirId) (name : List ℕ) (own : Bool) → Leaves s at (if own then changed (answer.Done None) (end_lock s dir name) else unmoved s answer.None).contents
  unlock_row-leaves dir name true = NoLock dir name
  unlock_row-leaves dir name false = Same

  unlock_rec-leaves : (child : DirId) (own : Bool) (rec : Option DirRec) → get s.recs child.0 ≡ rec → Leaves s at (rec_unlocked s child own rec).contents
  unlock_rec-leaves child own None there = Same
  unlock_rec-leaves child false (Some r) there = Same
  unlock_rec-leaves child true (Some r) there = SameAttr child r (record r { lock = None }) there refl refl

  pub leaves : (moment : ℕ) (a : Ask) → Leaves s at (serve_shard s at moment a).contents
  leaves moment (ask.PutDir client place dir name) = NewRec _ refl refl refl
  leaves moment (ask.Insert client dir name node ts) = insert-leaves client dir name node ts _ refl _ _ _ refl _
  leaves moment (ask.Delete client dir name ts) = delete-leaves client dir name ts _ (get s.rows (row_key dir name)) refl
  leaves moment (ask.Swap client dir name to_name ts) = swap-leaves client dir name to_name ts _ (get s.rows (row_key dir name)) refl _ refl (get s.rows (row_key dir to_name)) refl
  leaves moment (ask.Mark client child dir name ts) = mark-leaves (note_of client dir name child ts) _ refl _ _ _ _ _
  leaves moment (ask.Remove note) = remove-leaves note _ (get s.rows (row_key note.dir note.name)) refl
  leaves moment (ask.Settle (Dir dir)) = settle-leaves dir _ refl _
  leaves moment (ask.TakeBack client (Dir dir)) = take-leaves client dir _
  leaves moment (ask.DropOwed client (Dir dir)) = take-leaves client dir _
  leaves moment (ask.DropRec dir) = drop-leaves dir _
  leaves moment (ask.Clear place node) = clear-leaves node _
  leaves moment (ask.Merge place) = AllMerged
  leaves moment (ask.LockRec job child dir name kind) = lock_rec-leaves job child kind _ refl _ _ _ _ _
  leaves moment (ask.LockRow job dir name side want reserves) = lock_row-leaves dir name _ _ _ refl _ _ _ _
  leaves moment (ask.Commit job client dir name to_dir to_name node ts) = commit-leaves job client dir name to_dir to_name node ts (get s.locks (row_key to_dir to_name)) refl
  leaves moment (ask.CutSource job dir name ts) = cut_source-leaves job dir name ts _
  leaves moment (ask.Rebase job child dir name) = rebase-leaves child (dir, name) _ _ refl
  leaves moment (ask.UnlockRow job dir name) = unlock_row-leaves dir name _
  leaves moment (ask.UnlockRec job child) = unlock_rec-leaves child _ _ refl
  leaves moment a = Same
