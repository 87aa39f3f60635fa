-- What a shard finds of its own is what all shards together find.
use Rattle.std.proofs.Common.{◌≡◌, ℕ, List, [], ◌∷◌, ◌++◌, flat_map, filter, length, map, Bool, true, false, refl, sym, ◌∙◌, ap, arith}
use Rattle.std.specs.Prelude.{◌==◌, ◌||◌, ◌&&◌, ◌%◌, if◌then◌else◌, Option, Some, None}
use Rattle.std.proofs.lemmas.Bool.Decides.{nat_tests}
use Rattle.std.specs.Option.{option_or}
use Rattle.std.specs.List.{list_any}
use Rattle.std.specs.Ordering.{nat_cmp}
use Rattle.std.specs.Cmp.{nat_cmp_total}
use Rattle.std.specs.Cmp.Lexicographic.{slice_cmp, nat_list_cmp_total}
use Rattle.std.specs.FinMap.{get, entries, from_entries, nat_cmp-IsAntisymmetric}
use Rattle.std.specs.FinMap.Entries.{where_key}
use Rattle.next_ids.specs.declared.ids.DirId.{DirId}
use Rattle.next_ids.specs.declared.ids.Client.{Client}
use Rattle.next_ids.specs.declared.ids.JobNo.{JobNo}
use Rattle.next_ids.specs.declared.ids.Kind.{Kind}
use Rattle.next_ids.specs.declared.ids.Kind.TheVariants.{Moving, Replacing}
use Rattle.next_ids.specs.declared.ids.PlaceNo.{PlaceNo}
use Rattle.next_ids.specs.declared.ids.Node.{Node}
use Rattle.next_ids.specs.declared.ids.Node.TheVariants.{Dir, File}
use Rattle.next_ids.specs.declared.note.MarkNote.{MarkNote}
use Rattle.next_ids.specs.Maps.{row_key, within, lies_in}
use Rattle.next_ids.specs.Namespace.{is_node}
use Rattle.next_steps.specs.declared.contents.Row.{Row}
use Rattle.next_steps.specs.declared.contents.DirRec.{DirRec}
use Rattle.next_steps.specs.declared.contents.Debt.{Debt}
use Rattle.next_steps.specs.declared.answer.Answer.TheVariants as answer
use Rattle.next_rules.specs.Contents.{Shard, node_of_key}
use Rattle.next_rules.specs.Reading.{names_of, mark_in, lies_at, read_row, read, list_rows, list, look_at, look}
use Rattle.next_rules.specs.Removing.{has_rows}
use Rattle.next_rules.specs.Homes.{home_of_row, home_of_number, home_of_debt}
use Rattle.next_rules.specs.Room.{locks_in, first_job, links_in, may_leave, may_come, room_of, room_in, is_source, is_dir_row}
use Rattle.next_rules.specs.Locks.{source_job, job_of, first_source, first_other, holder, replacer, other_job, source_at, lock_at, source_in, lock_in, other_in, list_lock, insert_lock, swap_lock, row_lock}
use Rattle.next_rules.specs.Locking.{up, up_from}
use Rattle.next_rules.specs.Strays.{dir_of_number, home_in, lies_here, owed_item, owed_dirs, marked_item, marked_dirs, debt_item, debts_left, shard_strays, names_answer}
use Rattle.next_rules.proofs.Names.{bytes_apart}
use Rattle.next_laws_several.proofs.Parts.{lies, entries-part, any-part, flat-part, within-part}
use Rattle.next_laws_several.proofs.Changed.{Alike}

here_row : (index d : ℕ) → d % 64 ≡ index → (name : List ℕ) → lies home_of_row index (d ∷ name) ≡ true
here_row index d home name = grind (arith, nat_tests)

module _ (index : ℕ) (v s w : Shard) (a : Alike index v s w) where
  -- ---- by their keys
  pub row-alike : (dir : DirId) (name : List ℕ) → home_of_number dir.0 ≡ index → get w.rows (row_key dir name) ≡ get s.rows (row_key dir name)
  row-alike dir name home = a.rows.here (row_key dir name) home

  pub rec-alike : (dir : DirId) → home_of_number dir.0 ≡ index → get w.recs dir.0 ≡ get s.recs dir.0
  rec-alike dir home = a.recs.here dir.0 home

  pub lock-alike : (dir : DirId) (name : List ℕ) → home_of_number dir.0 ≡ index → get w.locks (row_key dir name) ≡ get s.locks (row_key dir name)
  lock-alike dir name home = a.locks.here (row_key dir name) home

  -- ---- by walks through the rows of a directory
  rows_there : entries s.rows ≡ where_key (slice_cmp nat_cmp) (lies home_of_row index) (entries w.rows)
  rows_there = entries-part nat_list_cmp_total bytes_apart home_of_row index v.rows s.rows w.rows a.rows

  pub rows-within : (d : ℕ) → home_of_number d ≡ index → within d (entries w.rows) ≡ within d (entries s.rows)
  rows-within d home = sym (ap (within d) rows_there ∙ within-part (lies home_of_row index) d (here_row index d home) (entries w.rows))

  pub names-alike : (dir : DirId) → home_of_number dir.0 ≡ index → names_of w dir.0 ≡ names_of s dir.0
  names-alike dir home = ap (λ es. from_entries (map (λ (e : List ℕ × Row). (e.0, e.1.node)) es)) (rows-within dir.0 home)

  elsewhere : (d : ℕ) → home_of_number d ≡ index → (k : List ℕ) → lies home_of_row index k ≡ false → lies_in d k ≡ false
  elsewhere d home [] away = refl
  elsewhere d home (n ∷ name) away = by_test (n == d) refl
    where
      by_test : (b : Bool) → (n == d) ≡ b → b ≡ false
      by_test true t = let same : n ≡ d = grind (arith, nat_tests) in let clash : lies home_of_row index (n ∷ name) ≡ true = ap (λ k. lies home_of_row index (k ∷ name)) same ∙ here_row index d home name in cc
      by_test false t = refl

  pub has_rows-alike : (dir : DirId) → home_of_number dir.0 ≡ index → has_rows w dir ≡ has_rows s dir
  has_rows-alike dir home = sym (
      ap (list_any (λ (e : List ℕ × Row). lies_in dir.0 e.0)) rows_there
      ∙ any-part (slice_cmp nat_cmp) (lies home_of_row index) (λ (e : List ℕ × Row). lies_in dir.0 e.0) (λ e away. elsewhere dir.0 home e.0 away) (entries w.rows))

  pub names_node-alike : (dir : DirId) (node : Node) → home_of_number dir.0 ≡ index → names_answer w dir node ≡ names_answer s dir node
  names_node-alike dir node home = ap (λ b. if b then answer.Yes else answer.No) (sym (
      ap (list_any (λ (e : List ℕ × Row). lies_in dir.0 e.0 && is_node node e.1.node)) rows_there
      ∙ any-part (slice_cmp nat_cmp) (lies home_of_row index) (λ (e : List ℕ × Row). lies_in dir.0 e.0 && is_node node e.1.node)
      (λ e away. ap (λ b. b && is_node node e.1.node) (elsewhere dir.0 home e.0 away)) (entries w.rows)))

  -- ---- locks
  pub locks_in-alike : (dir : DirId) → home_of_number dir.0 ≡ index → locks_in w dir ≡ locks_in s dir
  locks_in-alike dir home = sym (
      ap (within dir.0) (entries-part nat_list_cmp_total bytes_apart home_of_row index v.locks s.locks w.locks a.locks)
      ∙ within-part (lies home_of_row index) dir.0 (here_row index dir.0 home) (entries w.locks))

  pub source_at-alike : (dir : DirId) (name : List ℕ) → home_of_number dir.0 ≡ index → source_at w dir name ≡ source_at s dir name
  source_at-alike dir name home = ap source_job (lock-alike dir name home)

  pub lock_at-alike : (dir : DirId) (name : List ℕ) → home_of_number dir.0 ≡ index → lock_at w dir name ≡ lock_at s dir name
  lock_at-alike dir name home = ap job_of (lock-alike dir name home)

  pub source_in-alike : (dir : DirId) → home_of_number dir.0 ≡ index → source_in w dir ≡ source_in s dir
  source_in-alike dir home = ap first_source (locks_in-alike dir home)

  pub lock_in-alike : (dir : DirId) → home_of_number dir.0 ≡ index → lock_in w dir ≡ lock_in s dir
  lock_in-alike dir home = ap first_job (locks_in-alike dir home)

  pub other_in-alike : (job : JobNo) (kind : Kind) (dir : DirId) → home_of_number dir.0 ≡ index → other_in job kind w dir ≡ other_in job kind s dir
  other_in-alike job Moving dir home = refl
  other_in-alike job Replacing dir home = ap (first_other job) (locks_in-alike dir home)

  pub list_lock-alike : (dir : DirId) → home_of_number dir.0 ≡ index → list_lock w dir ≡ list_lock s dir
  list_lock-alike dir home = λ i. option_or (replacer (rec-alike dir home i)) (source_in-alike dir home i)

  pub insert_lock-alike : (dir : DirId) (name : List ℕ) → home_of_number dir.0 ≡ index → insert_lock w dir name ≡ insert_lock s dir name
  insert_lock-alike dir name home = λ i. option_or (replacer (rec-alike dir home i)) (lock_at-alike dir name home i)

  pub swap_lock-alike : (dir : DirId) (name to_name : List ℕ) → home_of_number dir.0 ≡ index → swap_lock w dir name to_name ≡ swap_lock s dir name to_name
  swap_lock-alike dir name to_name home = λ i. option_or (lock_at-alike dir name home i) (lock_at-alike dir to_name home i)

  pub row_lock-alike : (job : JobNo) (dir : DirId) (name : List ℕ) → home_of_number dir.0 ≡ index → row_lock job w dir name ≡ row_lock job s dir name
  row_lock-alike job dir name home = λ i. option_or (other_job job (replacer (rec-alike dir home i))) (other_job job (lock_at-alike dir name home i))

  -- ---- room
  may_leave-alike : (dir : DirId) → home_of_number dir.0 ≡ index → may_leave w dir ≡ may_leave s dir
  may_leave-alike dir home = λ i e. is_source e.1.side && is_dir_row (row-alike dir e.0 home i)

  pub room-alike : (dir : DirId) (node : Node) → home_of_number dir.0 ≡ index → room_in w dir node ≡ room_in s dir node
  room-alike dir (File file) home = refl
  room-alike dir (Dir child) home = λ i.
      room_of (links_in (rec-alike dir home i)) (length (filter (may_leave-alike dir home i) (locks_in-alike dir home i)))
      (length (filter may_come (locks_in-alike dir home i)))
      (first_job (filter (λ e. may_leave-alike dir home i e || may_come e) (locks_in-alike dir home i)))

  -- ---- what the asks that read are answered
  pub read-alike : (dir : DirId) (name : List ℕ) → home_of_number dir.0 ≡ index → read w dir name ≡ read s dir name
  read-alike dir name home = λ i. read_row (source_at-alike dir name home i) (row-alike dir name home i)

  list_rows-alike : (dir : DirId) → home_of_number dir.0 ≡ index → (r : Option DirRec) (mark : Option MarkNote) (lock : Option JobNo) → list_rows w dir r mark lock ≡ list_rows s dir r mark lock
  list_rows-alike dir home None mark lock = refl
  list_rows-alike dir home (Some r) (Some note) lock = refl
  list_rows-alike dir home (Some r) None (Some job) = refl
  list_rows-alike dir home (Some r) None None = ap (λ names. answer.Rows (entries names)) (names-alike dir home)

  pub list-alike : (dir : DirId) → home_of_number dir.0 ≡ index → list w dir ≡ list s dir
  list-alike dir home =
      (λ i. list_rows w dir (rec-alike dir home i) (mark_in (rec-alike dir home i)) (list_lock-alike dir home i))
      ∙ list_rows-alike dir home (get s.recs dir.0) (mark_in (get s.recs dir.0)) (list_lock s dir)

  pub look-alike : (dir : DirId) (back : Option (DirId × List ℕ)) → home_of_number dir.0 ≡ index → look w dir back ≡ look s dir back
  look-alike dir back home = λ i.
      look_at (rec-alike dir home i) (holder (rec-alike dir home i)) (lies_at back (rec-alike dir home i)) (mark_in (rec-alike dir home i))
      (source_in-alike dir home i)

  pub up-alike : (dir : DirId) → home_of_number dir.0 ≡ index → up w dir ≡ up s dir
  up-alike dir home = ap up_from (rec-alike dir home)

  -- ---- strays
  recs_there : entries s.recs ≡ where_key nat_cmp (lies home_of_number index) (entries w.recs)
  recs_there = entries-part nat_cmp_total nat_cmp-IsAntisymmetric home_of_number index v.recs s.recs w.recs a.recs

  module _ (at : PlaceNo) (own : at.0 ≡ index) (clients : List Client) where
    not_here : (d : ℕ) → lies home_of_number index d ≡ false → lies_here at (dir_of_number d) ≡ false
    not_here d away = grind (arith, nat_tests, own)

    owed-away : (e : ℕ × DirRec) → lies home_of_number index e.0 ≡ false → (owner : Option Client) → owed_item at clients (dir_of_number e.0) owner (home_in e.1.back) ≡ []
    owed-away e away None = refl
    owed-away e away (Some owner) = rw (not_here e.0 away) refl

    marked-away : (e : ℕ × DirRec) → lies home_of_number index e.0 ≡ false → (mark : Option MarkNote) → marked_item at clients (dir_of_number e.0) mark ≡ []
    marked-away e away None = refl
    marked-away e away (Some note) = rw (not_here e.0 away) refl

    owed-alike : owed_dirs w at clients ≡ owed_dirs s at clients
    owed-alike = sym (
        ap (flat_map (λ (e : ℕ × DirRec). owed_item at clients (dir_of_number e.0) e.1.owner (home_in e.1.back))) recs_there
        ∙ flat-part nat_cmp (lies home_of_number index) (λ (e : ℕ × DirRec). owed_item at clients (dir_of_number e.0) e.1.owner (home_in e.1.back)) (λ e away. owed-away e away e.1.owner) (entries w.recs))

    marked-alike : marked_dirs w at clients ≡ marked_dirs s at clients
    marked-alike = sym (
        ap (flat_map (λ (e : ℕ × DirRec). marked_item at clients (dir_of_number e.0) e.1.mark)) recs_there
        ∙ flat-part nat_cmp (lies home_of_number index) (λ (e : ℕ × DirRec). marked_item at clients (dir_of_number e.0) e.1.mark) (λ e away. marked-away e away e.1.mark) (entries w.recs))

    here_debt : (key : List ℕ) → lies home_of_debt index (at.0 ∷ key) ≡ true
    here_debt key = grind (arith, nat_tests, own)

    debts-alike : debts_left w at clients ≡ debts_left s at clients
    debts-alike = ap (flat_map (λ (e : List ℕ × Debt). debt_item clients (node_of_key e.0) e.1.owner)) (sym (
        ap (within at.0) (entries-part nat_list_cmp_total bytes_apart home_of_debt index v.debts s.debts w.debts a.debts)
        ∙ within-part (lies home_of_debt index) at.0 here_debt (entries w.debts)))

    pub strays-alike : shard_strays w at clients ≡ shard_strays s at clients
    strays-alike = λ i. answer.Strays (owed-alike i ++ (marked-alike i ++ debts-alike i))
