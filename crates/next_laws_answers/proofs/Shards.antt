-- A shard's answers are those that its table lists.
use Rattle.std.proofs.Common.{◌≡◌, ℕ, suc, ◌<◌, ◌≤◌, ◌^◌, List, [], ◌∷◌, length, Bool, true, false, refl, arith}
use Rattle.std.specs.Prelude.{◌==◌, ◌&&◌, nat_le, Option, Some, None, if◌then◌else◌}
use Rattle.std.proofs.lemmas.Bool.Decides.{nat_tests}
use Rattle.std.specs.Str.{bytes_eq}
use Rattle.std.specs.List.{list_any}
use Rattle.std.specs.FinMap.{get, entries, len, len-entries}
use Rattle.next_ids.specs.declared.ids.DirId.{DirId}
use Rattle.next_ids.specs.declared.ids.Client.{Client}
use Rattle.next_ids.specs.declared.ids.JobNo.{JobNo}
use Rattle.next_ids.specs.declared.ids.Kind.{Kind}
use Rattle.next_ids.specs.declared.ids.Side.{Side}
use Rattle.next_ids.specs.declared.ids.Stamp.{Stamp}
use Rattle.next_ids.specs.declared.ids.PlaceNo.{PlaceNo}
use Rattle.next_ids.specs.declared.ids.Node.{Node}
use Rattle.next_ids.specs.declared.ids.Node.TheVariants.{Dir, File}
use Rattle.next_ids.specs.declared.note.MarkNote.{MarkNote}
use Rattle.next_ids.specs.declared.time.Ts.{Ts}
use Rattle.next_ids.specs.Maps.{row_key, lies_in, how_many}
use Rattle.next_ids.specs.Namespace.{is_node, is_dir}
use Rattle.next_steps.specs.declared.contents.Row.{Row}
use Rattle.next_steps.specs.declared.contents.RowLock.{RowLock}
use Rattle.next_steps.specs.declared.contents.DirRec.{DirRec}
use Rattle.next_steps.specs.declared.contents.Debt.{Debt}
use Rattle.next_steps.specs.declared.ask.Ask.{Ask}
use Rattle.next_steps.specs.declared.ask.Ask.TheVariants as ask
use Rattle.next_steps.specs.declared.ask.Want.{Want}
use Rattle.next_steps.specs.declared.answer.Answer.TheVariants as answer
use Rattle.next_steps.specs.Answers.{lists}
use Rattle.next_steps.specs.Asks.{place_of, suits}
use Rattle.next_steps.specs.Removers.{note_of}
use Rattle.next_rules.specs.Contents.{Shard, attr_of, debt_key, changed, unmoved}
use Rattle.next_rules.specs.Changes.{node_in, cut_rec}
use Rattle.next_rules.specs.Facts.{CountsHold}
use Rattle.next_rules.specs.Locks.{source_at, source_in, list_lock, insert_lock, lock_at, swap_lock, lock_in, other_in, row_lock, holder}
use Rattle.next_rules.specs.Room.{Room, HasRoom, IsFull, DependsOn, room_in}
use Rattle.next_rules.specs.Reading.{read_row, list_rows, look_at, mark_in, lies_at}
use Rattle.next_rules.specs.Primitives.{inserted, deleted, swap_from}
use Rattle.next_rules.specs.Removing.{has_rows, marked, removed, names_it}
use Rattle.next_rules.specs.Owning.{settled_dir, taken_back_dir, dropped_rec, cleared, owner_in}
use Rattle.next_rules.specs.Locking.{rec_locked, rows_matter, row_locked, is_wanted, has_no_link, is_job, rec_unlocked, parent_in, up_from}
use Rattle.next_rules.specs.Moving.{committed, has_target, rebased}
use Rattle.next_rules.specs.Places.{serve_shard}
use Rattle.next_laws_answers.specs.Counts.{CountsFit}

module _ (s : Shard) (at : Stamp) (moment : ℕ) where
  -- ---- reading
  read-listed : (dir : DirId) (name : List ℕ) (lock : Option JobNo) (row : Option Row) → lists (ask.Read dir name) (read_row lock row) ≡ true
  read-listed dir name (Some job) row = refl
  read-listed dir name None None = refl
  read-listed dir name None (Some row) = refl

  list-listed : (dir : DirId) (r : Option DirRec) (mark : Option MarkNote) (lock : Option JobNo) → lists (ask.List dir) (list_rows s dir r mark lock) ≡ true
  list-listed dir None mark lock = refl
  list-listed dir (Some r) (Some note) lock = refl
  list-listed dir (Some r) None (Some job) = refl
  list-listed dir (Some r) None None = refl

  look-listed : (dir : DirId) (back : Option (DirId × List ℕ)) (r : Option DirRec) → get s.recs dir.0 ≡ r → CountsFit s
      → (lock : Option JobNo) (here : Bool) (mark : Option MarkNote) (source : Option JobNo) → lists (ask.Look dir back) (look_at r lock here mark source) ≡ true
  look-listed dir back None is fit lock here mark source = refl
  look-listed dir back (Some r) is fit (Some job) here mark source = refl
  look-listed dir back (Some r) is fit None false mark source = refl
  look-listed dir back (Some r) is fit None true (Some note) source = refl
  look-listed dir back (Some r) is fit None true None (Some job) = refl
  look-listed dir back (Some r) is fit None true None None = fit dir.0 r is

  -- ---- one directory
  insert-listed : (client : Client) (dir : DirId) (name : List ℕ) (ts : Ts) (r : Option DirRec) (mark : Option MarkNote) (lock : Option JobNo) (row : Option Row) (node : Node)
      → lists (ask.Insert client dir name node ts) (inserted s at client dir name node ts r mark lock row (room_in s dir node)).answer ≡ true
  insert-listed client dir name ts None mark lock row node = refl
  insert-listed client dir name ts (Some r) (Some note) lock row node = refl
  insert-listed client dir name ts (Some r) None (Some job) row node = refl
  insert-listed client dir name ts (Some r) None None (Some row) node = refl
  insert-listed client dir name ts (Some r) None None None (File file) = refl
  insert-listed client dir name ts (Some r) None None None (Dir child) = by_room (room_in s dir (Dir child))
    where
      by_room : (room : Room) → lists (ask.Insert client dir name (Dir child) ts) (inserted s at client dir name (Dir child) ts (Some r) None None None room).answer ≡ true
      by_room HasRoom = refl
      by_room IsFull = refl
      by_room (DependsOn job) = refl

  delete-listed : (client : Client) (dir : DirId) (name : List ℕ) (ts : Ts) (lock : Option JobNo) (found : Option Node)
      → lists (ask.Delete client dir name ts) (deleted s at client dir name ts lock found).answer ≡ true
  delete-listed client dir name ts (Some job) found = refl
  delete-listed client dir name ts None None = refl
  delete-listed client dir name ts None (Some (Dir child)) = refl
  delete-listed client dir name ts None (Some (File file)) = refl

  swap-listed : (client : Client) (dir : DirId) (name to_name : List ℕ) (ts : Ts) (lock : Option JobNo) (found : Option Node) (same : Bool) (old : Option Node)
      → lists (ask.Swap client dir name to_name ts) (swap_from s at client dir name to_name ts lock found same old).answer ≡ true
  swap-listed client dir name to_name ts (Some job) found same old = refl
  swap-listed client dir name to_name ts None None same old = refl
  swap-listed client dir name to_name ts None (Some node) true old = refl
  swap-listed client dir name to_name ts None (Some (Dir child)) false old = refl
  swap-listed client dir name to_name ts None (Some (File file)) false None = refl
  swap-listed client dir name to_name ts None (Some (File file)) false (Some (Dir other)) = refl
  swap-listed client dir name to_name ts None (Some (File file)) false (Some (File other)) = refl

  -- ---- removing a directory
  mark-listed : (client : Client) (child dir : DirId) (name : List ℕ) (ts : Ts) (r : Option DirRec) (lock : Option JobNo) (here : Bool) (mark : Option MarkNote) (inner : Option JobNo) (rows : Bool)
      → lists (ask.Mark client child dir name ts) (marked s (note_of client dir name child ts) r lock here mark inner rows).answer ≡ true
  mark-listed client child dir name ts None lock here mark inner rows = refl
  mark-listed client child dir name ts (Some r) (Some job) here mark inner rows = refl
  mark-listed client child dir name ts (Some r) None false mark inner rows = refl
  mark-listed client child dir name ts (Some r) None true (Some other) inner rows = refl
  mark-listed client child dir name ts (Some r) None true None (Some job) rows = refl
  mark-listed client child dir name ts (Some r) None true None None true = refl
  mark-listed client child dir name ts (Some r) None true None None false = refl

  remove-listed : (note : MarkNote) (debt : Option Debt) (named : Bool) → lists (ask.Remove note) (removed s at note debt named).answer ≡ true
  remove-listed note (Some debt) named = refl
  remove-listed note None true = refl
  remove-listed note None false = refl

  -- ---- ownership and clean-up
  settle-listed : (dir : DirId) (r : Option DirRec) (owner : Option Client) → lists (ask.Settle (Dir dir)) (settled_dir s dir r owner).answer ≡ true
  settle-listed dir None owner = refl
  settle-listed dir (Some r) None = refl
  settle-listed dir (Some r) (Some client) = refl

  take_back-listed : (client : Client) (dir : DirId) (owner : Option Client) → lists (ask.TakeBack client (Dir dir)) (taken_back_dir s client dir owner).answer ≡ true
  take_back-listed client dir None = refl
  take_back-listed client dir (Some owner) = elim (owner.0 == client.0) as (λ b. lists (ask.TakeBack client (Dir dir)) (if b then changed (answer.Done None) (cut_rec s dir) else unmoved s answer.None).answer ≡ true) [ true ↦ refl | false ↦ refl ]

  drop_rec-listed : (dir : DirId) (r : Option DirRec) → lists (ask.DropRec dir) (dropped_rec s dir r).answer ≡ true
  drop_rec-listed dir None = refl
  drop_rec-listed dir (Some r) = refl

  clear-listed : (place : PlaceNo) (node : Node) (debt : Option Debt) → lists (ask.Clear place node) (cleared s at.place node debt).answer ≡ true
  clear-listed place node None = refl
  clear-listed place node (Some debt) = refl

  -- ---- for the Renamer
  lock_rec-listed : (job : JobNo) (child dir : DirId) (name : List ℕ) (kind : Kind) (r : Option DirRec) (lock : Option JobNo) (here : Bool) (mark : Option MarkNote) (inner : Option JobNo) (rows : Bool)
      → lists (ask.LockRec job child dir name kind) (rec_locked s job child kind r lock here mark inner rows).answer ≡ true
  lock_rec-listed job child dir name kind None lock here mark inner rows = refl
  lock_rec-listed job child dir name kind (Some r) (Some other) here mark inner rows = refl
  lock_rec-listed job child dir name kind (Some r) None false mark inner rows = refl
  lock_rec-listed job child dir name kind (Some r) None true (Some note) inner rows = refl
  lock_rec-listed job child dir name kind (Some r) None true None (Some other) rows = refl
  lock_rec-listed job child dir name kind (Some r) None true None None true = refl
  lock_rec-listed job child dir name kind (Some r) None true None None false = refl

  -- only a lock that reserves asks for room
  lock_row-listed : (job : JobNo) (dir : DirId) (name : List ℕ) (side : Side) (want : Want) (reserves : Bool) (new : RowLock) (found : Option Node) (r : Option DirRec) (mark : Option MarkNote) (lock : Option JobNo)
      (wanted full : Bool) → lists (ask.LockRow job dir name side want reserves) (row_locked s dir name new found r mark lock wanted (reserves && full)).answer ≡ true
  lock_row-listed job dir name side want reserves new found None mark lock wanted full = refl
  lock_row-listed job dir name side want reserves new found (Some r) (Some note) lock wanted full = refl
  lock_row-listed job dir name side want reserves new found (Some r) None (Some other) wanted full = refl
  lock_row-listed job dir name side want reserves new found (Some r) None None false full = refl
  lock_row-listed job dir name side want false new found (Some r) None None true full = refl
  lock_row-listed job dir name side want true new found (Some r) None None true true = refl
  lock_row-listed job dir name side want true new found (Some r) None None true false = refl

  commit-listed : (job : JobNo) (client : Client) (dir : DirId) (name : List ℕ) (to_dir : DirId) (to_name : List ℕ) (node : Node) (ts : Ts) (target : Bool) (old : Option Row)
      → lists (ask.Commit job client dir name to_dir to_name node ts) (committed s at job client dir name to_dir to_name node ts target old).answer ≡ true
  commit-listed job client dir name to_dir to_name node ts false old = refl
  commit-listed job client dir name to_dir to_name node ts true old = refl

  rebase-listed : (job : JobNo) (child dir : DirId) (name : List ℕ) (back : DirId × List ℕ) (own : Bool) (r : Option DirRec) → lists (ask.Rebase job child dir name) (rebased s child back own r).answer ≡ true
  rebase-listed job child dir name back own None = refl
  rebase-listed job child dir name back false (Some r) = refl
  rebase-listed job child dir name back true (Some r) = refl

  unlock_rec-listed : (job : JobNo) (child : DirId) (own : Bool) (r : Option DirRec) → lists (ask.UnlockRec job child) (rec_unlocked s child own r).answer ≡ true
  unlock_rec-listed job child own None = refl
  unlock_rec-listed job child false (Some r) = refl
  unlock_rec-listed job child true (Some r) = refl

  -- what is done by one test, or is not done
  tested : (a : Ask) (b : Bool) (t : Shard) → lists a (answer.Done None) ≡ true → lists a answer.None ≡ true → lists a (if b then changed (answer.Done None) t else unmoved s answer.None).answer ≡ true
  tested a true t done none = done
  tested a false t done none = none

  up-listed : (dir : DirId) (r : Option DirRec) → lists (ask.Up dir) (up_from r) ≡ true
  up-listed dir None = refl
  up-listed dir (Some r) = by_back r.back
    where
      by_back : (back : Option (DirId × List ℕ)) → lists (ask.Up dir) (parent_in back) ≡ true
      by_back None = refl
      by_back (Some back) = refl

  names-listed : (dir : DirId) (node : Node) (b : Bool) → lists (ask.Names dir node) (if b then answer.Yes else answer.No) ≡ true
  names-listed dir node true = refl
  names-listed dir node false = refl

  -- ---- each ask of a shard
  pub shard-listed : (a : Ask) → (place_of a).0 < 64 → suits a ≡ true → CountsFit s → lists a (serve_shard s at moment a).answer ≡ true
  shard-listed (ask.Read dir name) here suit fit = read-listed dir name (source_at s dir name) (get s.rows (row_key dir name))
  shard-listed (ask.List dir) here suit fit = list-listed dir (get s.recs dir.0) (mark_in (get s.recs dir.0)) (list_lock s dir)
  shard-listed (ask.Look dir back) here suit fit = look-listed dir back (get s.recs dir.0) refl fit (holder (get s.recs dir.0)) (lies_at back (get s.recs dir.0)) (mark_in (get s.recs dir.0)) (source_in s dir)
  shard-listed (ask.PutDir client place dir name) here suit fit = refl
  shard-listed (ask.Insert client dir name node ts) here suit fit = insert-listed client dir name ts (get s.recs dir.0) (mark_in (get s.recs dir.0)) (insert_lock s dir name) (get s.rows (row_key dir name)) node
  shard-listed (ask.Delete client dir name ts) here suit fit = delete-listed client dir name ts (lock_at s dir name) (node_in (get s.rows (row_key dir name)))
  shard-listed (ask.Swap client dir name to_name ts) here suit fit = swap-listed client dir name to_name ts (swap_lock s dir name to_name) (node_in (get s.rows (row_key dir name))) (bytes_eq name to_name) (node_in (get s.rows (row_key dir to_name)))
  shard-listed (ask.Mark client child dir name ts) here suit fit =
      mark-listed client child dir name ts (get s.recs child.0) (holder (get s.recs child.0)) (lies_at (Some (dir, name)) (get s.recs child.0)) (mark_in (get s.recs child.0)) (lock_in s child) (has_rows s child)
  shard-listed (ask.Remove note) here suit fit = remove-listed note (get s.debts (debt_key at.place (Dir note.child))) (names_it note.child (node_in (get s.rows (row_key note.dir note.name))))
  shard-listed (ask.Settle (Dir dir)) here suit fit = settle-listed dir (get s.recs dir.0) (owner_in (get s.recs dir.0))
  shard-listed (ask.Settle (File file)) here suit fit = refl
  shard-listed (ask.TakeBack client (Dir dir)) here suit fit = take_back-listed client dir (owner_in (get s.recs dir.0))
  shard-listed (ask.TakeBack client (File file)) here suit fit = refl
  shard-listed (ask.DropOwed client (Dir dir)) here suit fit = take_back-listed client dir (owner_in (get s.recs dir.0))
  shard-listed (ask.DropOwed client (File file)) here suit fit = refl
  shard-listed (ask.DropRec dir) here suit fit = drop_rec-listed dir (get s.recs dir.0)
  shard-listed (ask.Clear place node) here suit fit = clear-listed place node (get s.debts (debt_key at.place node))
  shard-listed (ask.Merge place) here suit fit = refl
  shard-listed (ask.LockRec job child dir name kind) here suit fit =
      lock_rec-listed job child dir name kind (get s.recs child.0) (holder (get s.recs child.0)) (lies_at (Some (dir, name)) (get s.recs child.0)) (mark_in (get s.recs child.0)) (other_in job kind s child)
      (rows_matter kind (has_rows s child))
  shard-listed (ask.LockRow job dir name side want reserves) here suit fit =
      lock_row-listed job dir name side want reserves (record { job = job; side = side; reserves = reserves }) (node_in (get s.rows (row_key dir name))) (get s.recs dir.0) (mark_in (get s.recs dir.0)) (row_lock job s dir name)
      (is_wanted want (node_in (get s.rows (row_key dir name)))) (has_no_link (get s.recs dir.0))
  shard-listed (ask.Commit job client dir name to_dir to_name node ts) here suit fit =
      commit-listed job client dir name to_dir to_name node ts (has_target job (get s.locks (row_key to_dir to_name))) (get s.rows (row_key to_dir to_name))
  shard-listed (ask.CutSource job dir name ts) here suit fit = tested (ask.CutSource job dir name ts) (is_job job (source_at s dir name)) _ refl refl
  shard-listed (ask.Rebase job child dir name) here suit fit = rebase-listed job child dir name (dir, name) (is_job job (holder (get s.recs child.0))) (get s.recs child.0)
  shard-listed (ask.UnlockRow job dir name) here suit fit = tested (ask.UnlockRow job dir name) (is_job job (lock_at s dir name)) _ refl refl
  shard-listed (ask.UnlockRec job child) here suit fit = unlock_rec-listed job child (is_job job (holder (get s.recs child.0))) (get s.recs child.0)
  shard-listed (ask.Up dir) here suit fit = up-listed dir (get s.recs dir.0)
  shard-listed (ask.Strays place clients) here suit fit = refl
  shard-listed (ask.Names dir node) here suit fit = names-listed dir node (list_any (λ e. lies_in dir.0 e.0 && is_node node e.1.node) (entries s.rows))
  shard-listed (ask.Put client place home) here suit fit = absurd (let high : 64 ≤ place.0 = grind (arith, nat_tests) in omega (arith, here, high))
  shard-listed (ask.Get file) here suit fit = refl
  shard-listed (ask.SetSize client file size ts) here suit fit = refl
  shard-listed (ask.Drop file) here suit fit = refl
  shard-listed (ask.Submit client dir name to_dir to_name ts) here suit fit = absurd (omega (arith, here))
  shard-listed ask.TakeJob here suit fit = absurd (omega (arith, here))
  shard-listed (ask.Reply job reply point) here suit fit = absurd (omega (arith, here))
  shard-listed (ask.Collect job) here suit fit = absurd (omega (arith, here))
  shard-listed (ask.Stop client) here suit fit = absurd (omega (arith, here))
  shard-listed (ask.End client) here suit fit = absurd (omega (arith, here))
  shard-listed ask.Stopped here suit fit = absurd (omega (arith, here))

-- ---- the attributes count rows, so that they are no more than these
many-few : {X : Type 0} (p : X → Bool) (xs : List X) → how_many p xs ≤ length xs
many-few p [] = omega arith
many-few p (x ∷ xs) = by_test (p x) (many-few p xs)
  where
    by_test : (b : Bool) → how_many p xs ≤ length xs → (if b then suc (how_many p xs) else how_many p xs) ≤ suc (length xs)
    by_test true le = omega arith
    by_test false le = omega arith

are_counts-few : (children subdirs : ℕ) → children ≤ 2 ^ 62 → subdirs ≤ 2 ^ 62 → (nat_le children (2 ^ 62) && nat_le subdirs (2 ^ 62)) ≡ true
are_counts-few children subdirs a b = grind (arith, nat_tests, a, b)

pub counts_fit : (s : Shard) → CountsHold s → len s.rows ≤ 2 ^ 62 → CountsFit s
counts_fit s holds few d r there =
    let all = len-entries s.rows in
    let counted = holds d r there in
    let children = many-few (λ e. lies_in d e.0) (entries s.rows) in
    let subdirs = many-few (λ e. lies_in d e.0 && is_dir e.1.node) (entries s.rows) in
    are_counts-few (attr_of r).children (attr_of r).subdirs (omega (arith, counted.children, children, few, all)) (omega (arith, counted.subdirs, subdirs, few, all))
