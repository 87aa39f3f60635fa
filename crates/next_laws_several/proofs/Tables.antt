-- Each line of the shard's table does to a shard what it does to all shards together, where both have found the same.
use Rattle.std.proofs.Common.{◌≡◌, ◌≢◌, ℕ, List, [], ◌∷◌, ◌++◌, Bool, true, false, refl, sym, ◌∙◌, ap, subst, arith}
use Rattle.std.specs.Prelude.{◌==◌, Option, Some, None, if◌then◌else◌}
use Rattle.std.proofs.lemmas.Bool.Decides.{nat_tests}
use Rattle.std.specs.Cmp.{nat_cmp_total}
use Rattle.std.specs.FinMap.{get, nat_cmp-IsAntisymmetric}
use Rattle.next_ids.specs.declared.ids.DirId.{DirId}
use Rattle.next_ids.specs.declared.ids.FileId.{FileId}
use Rattle.next_ids.specs.declared.ids.Client.{Client}
use Rattle.next_ids.specs.declared.ids.JobNo.{JobNo}
use Rattle.next_ids.specs.declared.ids.Kind.{Kind}
use Rattle.next_ids.specs.declared.ids.PlaceNo.{PlaceNo}
use Rattle.next_ids.specs.declared.ids.Stamp.{Stamp}
use Rattle.next_ids.specs.declared.ids.Actor.TheVariants.{Client as ClientActor, Renamer}
use Rattle.next_ids.specs.declared.ids.Node.{Node}
use Rattle.next_ids.specs.declared.ids.Node.TheVariants.{Dir, File}
use Rattle.next_ids.specs.declared.note.MarkNote.{MarkNote}
use Rattle.next_ids.specs.declared.time.Ts.{Ts}
use Rattle.next_ids.specs.Maps.{row_key}
use Rattle.next_steps.specs.declared.contents.Row.{Row}
use Rattle.next_steps.specs.declared.contents.RowLock.{RowLock}
use Rattle.next_steps.specs.declared.contents.DirRec.{DirRec}
use Rattle.next_steps.specs.declared.contents.Debt.{Debt}
use Rattle.next_steps.specs.declared.answer.Answer.TheVariants as answer
use Rattle.next_rules.specs.Contents.{Shard, unmoved, changed}
use Rattle.next_rules.specs.Changes.{cut_row, cut_rec, end_lock, update, nodes_in}
use Rattle.next_rules.specs.Homes.{home_of_number}
use Rattle.next_rules.specs.Room.{Room, HasRoom, IsFull, DependsOn}
use Rattle.next_rules.specs.Locks.{source_at}
use Rattle.next_rules.specs.Primitives.{inserted, deleted, swap_onto, swap_from, swapped}
use Rattle.next_rules.specs.Removing.{marked, removed}
use Rattle.next_rules.specs.Owning.{settled_dir, taken_back_dir, dropped_rec, cleared, merged_at, merge}
use Rattle.next_rules.specs.Locking.{rec_locked, row_locked, rec_unlocked}
use Rattle.next_rules.specs.Moving.{taken, end_source, given_up, committed_as, committed, rebased}
use Rattle.next_rules.specs.Strays.{lies_here, dir_of_number}
use Rattle.next_laws_several.proofs.Parts.{map_all}
use Rattle.next_laws_several.proofs.Changed.{Alike, Serves, looks, makes, set_row-alike, cut_row-alike, set_rec-alike, cut_rec-alike, update-alike, set_lock-alike, end_lock-alike, end_source-alike, leave_debt-alike, leave_debts-alike, end_debt-alike}
use Rattle.next_laws_several.proofs.Lookups.{row-alike, rec-alike, source_at-alike}

-- the one update of a step, by the record that both have
pub updated_from-alike : (index : ℕ) (v s w : Shard) → Alike index v s w → {t x : Shard} → Alike index v t x → (dir : DirId) (come gone : List Node) (ts : Ts) → home_of_number dir.0 ≡ index
    → Alike index v (update t dir come gone ts (get s.recs dir.0)) (update x dir come gone ts (get w.recs dir.0))
updated_from-alike index v s w a {t} {x} b dir come gone ts home =
    subst (λ r. Alike index v (update t dir come gone ts (get s.recs dir.0)) (update x dir come gone ts r)) (sym (rec-alike index v s w a dir home))
    (update-alike b dir come gone ts (get s.recs dir.0) home)

module _ (index : ℕ) (v s w : Shard) (a : Alike index v s w) where
  updated-alike : {t x : Shard} → Alike index v t x → (dir : DirId) (come gone : List Node) (ts : Ts) → home_of_number dir.0 ≡ index
      → Alike index v (update t dir come gone ts (get s.recs dir.0)) (update x dir come gone ts (get w.recs dir.0))
  updated-alike = updated_from-alike index v s w a

  -- ---- Insert, Delete, Swap
  pub inserted-alike : (at : Stamp) (c : Client) (dir : DirId) (name : List ℕ) (node : Node) (ts : Ts) → home_of_number dir.0 ≡ index
      → (r : Option DirRec) (mark : Option MarkNote) (lock : Option JobNo) (row : Option Row) (room : Room)
      → Serves index v (inserted s at c dir name node ts r mark lock row room) (inserted w at c dir name node ts r mark lock row room)
  inserted-alike at c dir name node ts home None mark lock row room = looks a _
  inserted-alike at c dir name node ts home (Some r) (Some note) lock row room = looks a _
  inserted-alike at c dir name node ts home (Some r) None (Some job) row room = looks a _
  inserted-alike at c dir name node ts home (Some r) None None (Some row) room = looks a _
  inserted-alike at c dir name node ts home (Some r) None None None IsFull = looks a _
  inserted-alike at c dir name node ts home (Some r) None None None (DependsOn job) = looks a _
  inserted-alike at c dir name node ts home (Some r) None None None HasRoom =
      record { answer = refl; moved = refl; contents = update-alike (set_row-alike a dir name node at home) dir (node ∷ []) [] ts (Some r) home }

  pub deleted-alike : (at : Stamp) (c : Client) (dir : DirId) (name : List ℕ) (ts : Ts) → home_of_number dir.0 ≡ index → at.place.0 ≡ index
      → (lock : Option JobNo) (found : Option Node) → Serves index v (deleted s at c dir name ts lock found) (deleted w at c dir name ts lock found)
  deleted-alike at c dir name ts home here (Some job) found = looks a _
  deleted-alike at c dir name ts home here None None = looks a _
  deleted-alike at c dir name ts home here None (Some (Dir child)) = looks a _
  deleted-alike at c dir name ts home here None (Some (File file)) =
      record { answer = refl; moved = refl; contents = leave_debt-alike (updated-alike (cut_row-alike a dir name home) dir [] (File file ∷ []) ts home) (ClientActor c) at (File file) here }

  pub swapped-alike : (at : Stamp) (dir : DirId) (name to_name : List ℕ) (ts : Ts) (gone : List Node) (file : FileId) → home_of_number dir.0 ≡ index
      → Alike index v (swapped s at dir name to_name ts gone file) (swapped w at dir name to_name ts gone file)
  swapped-alike at dir name to_name ts gone file home =
      updated-alike (set_row-alike (cut_row-alike a dir name home) dir to_name (File file) at home) dir (File file ∷ []) (File file ∷ gone) ts home

  swap_onto-alike : (at : Stamp) (c : Client) (dir : DirId) (name to_name : List ℕ) (ts : Ts) (file : FileId) → home_of_number dir.0 ≡ index → at.place.0 ≡ index
      → (old : Option Node) → Serves index v (swap_onto s at c dir name to_name ts file old) (swap_onto w at c dir name to_name ts file old)
  swap_onto-alike at c dir name to_name ts file home here (Some (Dir old)) = looks a _
  swap_onto-alike at c dir name to_name ts file home here (Some (File old)) =
      record { answer = refl; moved = refl; contents = leave_debt-alike (swapped-alike at dir name to_name ts (File old ∷ []) file home) (ClientActor c) at (File old) here }
  swap_onto-alike at c dir name to_name ts file home here None =
      record { answer = refl; moved = refl; contents = swapped-alike at dir name to_name ts [] file home }

  pub swap_from-alike : (at : Stamp) (c : Client) (dir : DirId) (name to_name : List ℕ) (ts : Ts) → home_of_number dir.0 ≡ index → at.place.0 ≡ index
      → (lock : Option JobNo) (found : Option Node) (same : Bool) (old : Option Node)
      → Serves index v (swap_from s at c dir name to_name ts lock found same old) (swap_from w at c dir name to_name ts lock found same old)
  swap_from-alike at c dir name to_name ts home here (Some job) found same old = looks a _
  swap_from-alike at c dir name to_name ts home here None None same old = looks a _
  swap_from-alike at c dir name to_name ts home here None (Some node) true old = looks a _
  swap_from-alike at c dir name to_name ts home here None (Some (Dir child)) false old = looks a _
  swap_from-alike at c dir name to_name ts home here None (Some (File file)) false old = swap_onto-alike at c dir name to_name ts file home here old

  -- ---- Mark, Remove
  pub marked-alike : (note : MarkNote) → home_of_number note.child.0 ≡ index
      → (r : Option DirRec) (lock : Option JobNo) (here : Bool) (mark : Option MarkNote) (inner : Option JobNo) (rows : Bool)
      → Serves index v (marked s note r lock here mark inner rows) (marked w note r lock here mark inner rows)
  marked-alike note home None lock here mark inner rows = looks a _
  marked-alike note home (Some r) (Some job) here mark inner rows = looks a _
  marked-alike note home (Some r) None false mark inner rows = looks a _
  marked-alike note home (Some r) None true (Some other) inner rows = looks a _
  marked-alike note home (Some r) None true None (Some job) rows = looks a _
  marked-alike note home (Some r) None true None None true = looks a _
  marked-alike note home (Some r) None true None None false = makes (set_rec-alike a note.child (record r { mark = Some note }) home) _

  pub removed-alike : (at : Stamp) (note : MarkNote) → home_of_number note.dir.0 ≡ index → at.place.0 ≡ index
      → (debt : Option Debt) (named : Bool) → Serves index v (removed s at note debt named) (removed w at note debt named)
  removed-alike at note home here (Some debt) named = looks a _
  removed-alike at note home here None false = looks a _
  removed-alike at note home here None true = record {
    answer = refl;
    moved = refl;
    contents = leave_debt-alike (updated-alike (cut_row-alike a note.dir note.name home) note.dir [] (Dir note.child ∷ []) note.ts home) (ClientActor note.owner) at (Dir note.child) here;
  }

  -- ---- Settle, TakeBack, DropOwed, DropRec, Clear, Merge
  pub settled-alike : (dir : DirId) → home_of_number dir.0 ≡ index → (r : Option DirRec) (owner : Option Client) → Serves index v (settled_dir s dir r owner) (settled_dir w dir r owner)
  settled-alike dir home None owner = looks a _
  settled-alike dir home (Some r) None = looks a _
  settled-alike dir home (Some r) (Some client) = makes (set_rec-alike a dir (record r { owner = None }) home) _

  pub taken_back-alike : (c : Client) (dir : DirId) → home_of_number dir.0 ≡ index → (owner : Option Client) → Serves index v (taken_back_dir s c dir owner) (taken_back_dir w c dir owner)
  taken_back-alike c dir home None = looks a _
  taken_back-alike c dir home (Some owner) = by_test (owner.0 == c.0)
    where
      by_test : (b : Bool) → Serves index v (if b then changed (answer.Done None) (cut_rec s dir) else unmoved s answer.None) (if b then changed (answer.Done None) (cut_rec w dir) else unmoved w answer.None)
      by_test true = makes (cut_rec-alike a dir home) _
      by_test false = looks a _

  pub dropped-alike : (dir : DirId) → home_of_number dir.0 ≡ index → (r : Option DirRec) → Serves index v (dropped_rec s dir r) (dropped_rec w dir r)
  dropped-alike dir home None = looks a _
  dropped-alike dir home (Some r) = makes (cut_rec-alike a dir home) _

  pub cleared-alike : (place : PlaceNo) (node : Node) → place.0 ≡ index → (debt : Option Debt) → Serves index v (cleared s place node debt) (cleared w place node debt)
  cleared-alike place node here None = looks a _
  cleared-alike place node here (Some debt) = makes (end_debt-alike a place node here) _

  pub merge-alike : (place : PlaceNo) → place.0 ≡ index → Serves index v (merge s place) (merge w place)
  merge-alike place own = makes (record { rows = a.rows; recs = map_all nat_cmp_total nat_cmp-IsAntisymmetric home_of_number index v.recs s.recs w.recs (merged_at place) stays a.recs; locks = a.locks; debts = a.debts }) _
    where
      stays : (d : ℕ) → home_of_number d ≢ index → (r : DirRec) → merged_at place d r ≡ r
      stays d away r = let no_part : lies_here place (dir_of_number d) ≡ false = grind (arith, nat_tests, own) in rw no_part refl

  -- ---- the Renamer's locks
  pub rec_locked-alike : (job : JobNo) (child : DirId) (kind : Kind) → home_of_number child.0 ≡ index
      → (r : Option DirRec) (lock : Option JobNo) (here : Bool) (mark : Option MarkNote) (inner : Option JobNo) (rows : Bool)
      → Serves index v (rec_locked s job child kind r lock here mark inner rows) (rec_locked w job child kind r lock here mark inner rows)
  rec_locked-alike job child kind home None lock here mark inner rows = looks a _
  rec_locked-alike job child kind home (Some r) (Some other) here mark inner rows = looks a _
  rec_locked-alike job child kind home (Some r) None false mark inner rows = looks a _
  rec_locked-alike job child kind home (Some r) None true (Some note) inner rows = looks a _
  rec_locked-alike job child kind home (Some r) None true None (Some other) rows = looks a _
  rec_locked-alike job child kind home (Some r) None true None None true = looks a _
  rec_locked-alike job child kind home (Some r) None true None None false = makes (set_rec-alike a child (record r { lock = Some (job, kind); owner = None }) home) _

  pub row_locked-alike : (dir : DirId) (name : List ℕ) (new : RowLock) → home_of_number dir.0 ≡ index
      → (found : Option Node) (r : Option DirRec) (mark : Option MarkNote) (lock : Option JobNo) (wanted full : Bool)
      → Serves index v (row_locked s dir name new found r mark lock wanted full) (row_locked w dir name new found r mark lock wanted full)
  row_locked-alike dir name new home found None mark lock wanted full = looks a _
  row_locked-alike dir name new home found (Some r) (Some note) lock wanted full = looks a _
  row_locked-alike dir name new home found (Some r) None (Some other) wanted full = looks a _
  row_locked-alike dir name new home found (Some r) None None false full = looks a _
  row_locked-alike dir name new home found (Some r) None None true true = looks a _
  row_locked-alike dir name new home found (Some r) None None true false = makes (set_lock-alike a dir name new home) _

  pub row_unlocked-alike : (dir : DirId) (name : List ℕ) → home_of_number dir.0 ≡ index → (own : Bool)
      → Serves index v (if own then changed (answer.Done None) (end_lock s dir name) else unmoved s answer.None) (if own then changed (answer.Done None) (end_lock w dir name) else unmoved w answer.None)
  row_unlocked-alike dir name home true = makes (end_lock-alike a dir name home) _
  row_unlocked-alike dir name home false = looks a _

  pub rec_unlocked-alike : (child : DirId) → home_of_number child.0 ≡ index → (own : Bool) (r : Option DirRec) → Serves index v (rec_unlocked s child own r) (rec_unlocked w child own r)
  rec_unlocked-alike child home own None = looks a _
  rec_unlocked-alike child home false (Some r) = looks a _
  rec_unlocked-alike child home true (Some r) = makes (set_rec-alike a child (record r { lock = None }) home) _

  pub rebased-alike : (child : DirId) (back : DirId × List ℕ) → home_of_number child.0 ≡ index → (own : Bool) (r : Option DirRec) → Serves index v (rebased s child back own r) (rebased w child back own r)
  rebased-alike child back home own None = looks a _
  rebased-alike child back home false (Some r) = looks a _
  rebased-alike child back home true (Some r) = makes (set_rec-alike a child (record r { back = Some back; lock = None }) home) _

  -- ---- CutSource
  pub source_cut-alike : (dir : DirId) (name : List ℕ) (ts : Ts) → home_of_number dir.0 ≡ index → (own : Bool)
      → Serves index v
      (if own then changed (answer.Done None) (update (end_lock (cut_row s dir name) dir name) dir [] (nodes_in (get s.rows (row_key dir name))) ts (get s.recs dir.0)) else unmoved s answer.None)
      (if own then changed (answer.Done None) (update (end_lock (cut_row w dir name) dir name) dir [] (nodes_in (get w.rows (row_key dir name))) ts (get w.recs dir.0)) else unmoved w answer.None)
  source_cut-alike dir name ts home false = looks a _
  source_cut-alike dir name ts home true =
      let cut = end_lock-alike (cut_row-alike a dir name home) dir name home in
      makes (subst (λ row. Alike index v (update (end_lock (cut_row s dir name) dir name) dir [] (nodes_in (get s.rows (row_key dir name))) ts (get s.recs dir.0)) (update (end_lock (cut_row w dir name) dir name) dir [] (nodes_in row) ts (get w.recs dir.0)))
      (sym (row-alike index v s w a dir name home)) (updated-alike cut dir [] (nodes_in (get s.rows (row_key dir name))) ts home)) _

  -- ---- Commit
  pub taken-alike : (at : Stamp) (job : JobNo) (to_dir : DirId) (to_name : List ℕ) (node : Node) (old : List Node) → home_of_number to_dir.0 ≡ index → at.place.0 ≡ index
      → Alike index v (taken s at job to_dir to_name node old) (taken w at job to_dir to_name node old)
  taken-alike at job to_dir to_name node old home here =
      set_lock-alike (leave_debts-alike Renamer at old here _ _ (set_row-alike a to_dir to_name node at home)) to_dir to_name _ home

-- the change is made in what Commit has taken
pub given_up-alike : (index : ℕ) (v s w : Shard) → Alike index v s w → (dir : DirId) (name : List ℕ) → home_of_number dir.0 ≡ index → Alike index v (given_up s dir name) (given_up w dir name)
given_up-alike index v s w a dir name home =
    subst (λ job. Alike index v (given_up s dir name) (end_source (cut_row w dir name) dir name job)) (sym (source_at-alike index v s w a dir name home))
    (end_source-alike (cut_row-alike a dir name home) dir name (source_at s dir name) home)

pub committed_as-alike : (index : ℕ) (v s w : Shard) → Alike index v s w → (dir : DirId) (name : List ℕ) (to_dir : DirId) (node : Node) (old : List Node) (ts : Ts) → home_of_number to_dir.0 ≡ index
    → (one_dir : Bool) → (dir.0 == to_dir.0) ≡ one_dir → Alike index v (committed_as one_dir s dir name to_dir node old ts) (committed_as one_dir w dir name to_dir node old ts)
committed_as-alike index v s w a dir name to_dir node old ts home false is = updated_from-alike index v s w a a to_dir (node ∷ []) old ts home
committed_as-alike index v s w a dir name to_dir node old ts home true is =
    let same : dir.0 ≡ to_dir.0 = grind (arith, nat_tests) in
    let near : home_of_number dir.0 ≡ index = ap home_of_number same ∙ home in
    subst (λ row. Alike index v (committed_as true s dir name to_dir node old ts) (update (given_up w dir name) to_dir (node ∷ []) (old ++ nodes_in row) ts (get w.recs to_dir.0)))
    (sym (row-alike index v s w a dir name near))
    (updated_from-alike index v s w a (given_up-alike index v s w a dir name near) to_dir (node ∷ []) (old ++ nodes_in (get s.rows (row_key dir name))) ts home)

module _ (index : ℕ) (v s w : Shard) (a : Alike index v s w) where
  pub committed-alike : (at : Stamp) (job : JobNo) (c : Client) (dir : DirId) (name : List ℕ) (to_dir : DirId) (to_name : List ℕ) (node : Node) (ts : Ts) → home_of_number to_dir.0 ≡ index → at.place.0 ≡ index
      → (target : Bool) (old : Option Row) → Serves index v (committed s at job c dir name to_dir to_name node ts target old) (committed w at job c dir name to_dir to_name node ts target old)
  committed-alike at job c dir name to_dir to_name node ts home here false old = looks a _
  committed-alike at job c dir name to_dir to_name node ts home here true old = record {
    answer = refl;
    moved = refl;
    contents = committed_as-alike index v _ _ (taken-alike index v s w a at job to_dir to_name node (nodes_in old) home here) dir name to_dir node (nodes_in old) ts home (dir.0 == to_dir.0) refl;
  }
