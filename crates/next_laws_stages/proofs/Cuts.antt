-- A row that is cut makes the tree what an unlink or a rmdir leaves, and the record of a file without a name what a
-- forgotten file leaves; a size that is set, what a truncate leaves.
use Rattle.std.proofs.Common.{◌≡◌, ◌≢◌, ℕ, ◌%◌, List, [], ◌∷◌, true, cond, refl, sym, ◌∙◌, ap, subst, arith, inl, inr}
use Rattle.std.specs.Prelude.{Option, Some, None}
use Rattle.std.proofs.lemmas.Bool.Decides.{nat_tests}
use Rattle.std.specs.Option.{option_map}
use Rattle.std.specs.Cmp.{nat_cmp_total}
use Rattle.std.specs.Cmp.Lexicographic.{nat_list_cmp_total}
use Rattle.std.specs.FinMap.{get, insert, remove, gets, same_map, nat_cmp-IsAntisymmetric}
use Rattle.next_ids.specs.declared.call.Call.{Call}
use Rattle.next_ids.specs.declared.call.Call.TheVariants.{Unlink, Rmdir, Truncate}
use Rattle.next_ids.specs.declared.ids.Actor.{Actor}
use Rattle.next_ids.specs.declared.ids.Actor.TheVariants.{Client as ClientActor}
use Rattle.next_ids.specs.declared.ids.DirId.{DirId}
use Rattle.next_ids.specs.declared.ids.FileId.{FileId}
use Rattle.next_ids.specs.declared.ids.Node.{Node}
use Rattle.next_ids.specs.declared.ids.Node.TheVariants.{Dir, File}
use Rattle.next_ids.specs.declared.ids.Stamp.{Stamp}
use Rattle.next_ids.specs.declared.note.MarkNote.{MarkNote}
use Rattle.next_ids.specs.declared.time.Ts.{Ts}
use Rattle.next_ids.specs.Maps.{row_key}
use Rattle.next_ids.specs.Namespace.{node_at, without_name, without_dir, name_cut, after, forget, cut_file}
use Rattle.next_ids.specs.Times.{later}
use Rattle.next_steps.specs.declared.contents.Row.{Row}
use Rattle.next_steps.specs.declared.contents.DirRec.{DirRec}
use Rattle.next_steps.specs.declared.contents.FileRec.{FileRec}
use Rattle.next_rules.specs.Contents.{Shard, Store}
use Rattle.next_rules.specs.Changes.{cut_row, update, leave_debt, delta_of, node_in}
use Rattle.next_rules.specs.Reading.{names_of}
use Rattle.next_rules.specs.Trees.{facts_of, tree}
use Rattle.next_rules.proofs.Names.{bytes_apart, get-names_of}
use Rattle.next_rules.proofs.Sums.{with_delta}
use Rattle.next_laws_stages.specs.Stages.{Stage, Named, Marked, Owed, is_in, is_open, is_kept, key_of, Deletes, Removes, Drops, from, to}
use Rattle.next_laws_stages.specs.Held.{PlacesHold, dir_at, still}
use Rattle.next_laws_stages.proofs.Effects.{true_false, row_there, open_rec}
use Rattle.next_laws_stages.proofs.Inserts.{date_grown}
use Rattle.next_laws_stages.proofs.Known.{open_in}
use Rattle.next_laws_stages.proofs.Maps.{set_here_n, set_away_n, cut_here_n, cut_away_n, numbers_or_not}
use Rattle.next_laws_stages.proofs.Moves.{rec_date, shown_file, file_same, dir_same, files_same, dirs_same, row_here, row_away}
use Rattle.next_laws_stages.proofs.Shown.{file_at, dir_there, dir_gone, node_told, get_files}
use Rattle.next_laws_stages.proofs.Stages.{Shifts, same_or_not}

-- ---- the names of a directory where a row is cut
module _ (shard : Shard) (dir : DirId) (name : List ℕ) where
  names_cut : names_of (record shard { rows = remove shard.rows (row_key dir name) }) dir.0 ≡ remove (names_of shard dir.0) name
  names_cut = same_map nat_list_cmp_total bytes_apart _ _ (λ q.
      let a = get-names_of (record shard { rows = remove shard.rows (row_key dir name) }) dir.0 q in
      let b = get-names_of shard dir.0 q in
      grind (arith, nat_tests, gets, a, b))

  names_cut_away : (d : ℕ) → d ≢ dir.0 → names_of (record shard { rows = remove shard.rows (row_key dir name) }) d ≡ names_of shard d
  names_cut_away d differ = same_map nat_list_cmp_total bytes_apart _ _ (λ q.
      let a = get-names_of (record shard { rows = remove shard.rows (row_key dir name) }) d q in
      let b = get-names_of shard d q in
      grind (arith, nat_tests, gets, a, b))

-- the call that cuts the name of a node
abbrev pub cutter : DirId → List ℕ → Node → Call
cutter dir name (File file) = Unlink dir name
cutter dir name (Dir child) = Rmdir dir name

abbrev pub row_cut : Shard → Actor → Stamp → DirId → List ℕ → Node → Ts → Shard
row_cut shard owner at dir name x ts = leave_debt (update (cut_row shard dir name) dir [] (x ∷ []) ts (get shard.recs dir.0)) owner at x

module _ (stage stage' : Node → Stage) (shard : Shard) (store : Store) (lasts lasts' : ℕ → ℕ) (h : PlacesHold stage shard store lasts)
    (x : Node) (s : Stage) (p : ℕ) (owner : Actor) (at : Stamp) (dir : DirId) (name : List ℕ) (ts : Ts) (shifts : Shifts stage stage' x s (Owed owner p at))
    (row : Row) (found : get shard.rows (row_key dir name) ≡ Some row) (names : row.node ≡ x) (apart : Dir dir ≢ x) (kept : (f : ℕ) → x ≡ file_at f → is_kept s ≡ true) where
  -- the shard after it, by the record of the directory
  abbrev cut_by : Option DirRec → Shard
  cut_by o = leave_debt (update (cut_row shard dir name) dir [] (x ∷ []) ts o) owner at x

  opens_here : is_open (stage (Dir dir)) ≡ true
  opens_here = h.housed dir.0 name row found

  node_was : node_at (get (tree (still shard store)).dirs dir.0) name ≡ Some x
  node_was = node_told stage shard store lasts h dir.0 name ∙ ap node_in found ∙ ap Some names

  module _ (r : DirRec) (there : get shard.recs dir.0 ≡ Some r) (h' : PlacesHold stage' (cut_by (Some r)) store lasts') where
    abbrev grown : DirRec
    grown = with_delta r (delta_of [] (x ∷ []) ts)

    abbrev cut_to : Shard
    cut_to = cut_by (Some r)

    cut_at : get (tree (still cut_to store)).dirs dir.0 ≡ Some (without_name (get (tree (still shard store)).dirs dir.0) name ts)
    cut_at =
        row_here stage stage' shard cut_to store store lasts lasts' h h' x _ _ shifts dir r grown refl opens_here apart _ (names_cut shard dir name) (names_cut_away shard dir name)
        ∙ ap (λ (t : Ts). Some (record { names = remove (names_of shard dir.0) name; time = t })) (date_grown r [] (x ∷ []) ts)
        ∙ ap (λ o. Some (without_name o name ts)) (sym (dir_there stage shard store lasts h dir.0 r (open_in (stage (Dir dir)) opens_here) there))

    cut_elsewhere : (d : ℕ) → d ≢ dir.0 → dir_at d ≢ x → get (tree (still cut_to store)).dirs d ≡ get (tree (still shard store)).dirs d
    cut_elsewhere = row_away stage stage' shard cut_to store store lasts lasts' h h' x _ _ shifts dir r grown refl opens_here apart _ (names_cut shard dir name) (names_cut_away shard dir name)

    files_stay : (tree (still cut_to store)).files ≡ (tree (still shard store)).files
    files_stay = files_same stage stage' shard cut_to store store lasts lasts' h h' (λ f. elim (same_or_not (file_at f) x) [
      | inl e ↦ ap (λ t. shown_file t (get store f)) (ap stage' e ∙ shifts.now) ∙ sym (ap (λ t. shown_file t (get store f)) (ap stage e ∙ shifts.was) ∙ ap (λ b. option_map facts_of (cond b (get store f) None)) (kept f (sym e)))
      | inr other ↦ ap (λ t. shown_file t (get store f)) (shifts.away (file_at f) other)
    ])

    dirs_cut_file : (f : ℕ) → x ≡ file_at f → (tree (still cut_to store)).dirs ≡ name_cut (tree (still shard store)).dirs dir name ts
    dirs_cut_file f e = same_map nat_cmp_total nat_cmp-IsAntisymmetric _ _ (λ q. elim (numbers_or_not q dir.0) [
      | inl same ↦ ap (get _) same ∙ cut_at ∙ sym (ap (get _) same ∙ set_here_n (tree (still shard store)).dirs dir.0 _)
      | inr differ ↦ cut_elsewhere q differ (λ no. let k = no ∙ e in cc) ∙ sym (set_away_n (tree (still shard store)).dirs dir.0 q _ differ)
    ])

    dirs_cut_dir : (d : ℕ) → x ≡ dir_at d → (tree (still cut_to store)).dirs ≡ remove (name_cut (tree (still shard store)).dirs dir name ts) d
    dirs_cut_dir d e = same_map nat_cmp_total nat_cmp-IsAntisymmetric _ _ (λ q. elim (numbers_or_not q d) [
      | inl child ↦ ap (get _) child ∙ dir_gone stage' cut_to store lasts' h' d (ap (λ z. is_in (stage' z)) (sym e) ∙ ap is_in shifts.now) ∙ sym (ap (get _) child ∙ cut_here_n (name_cut (tree (still shard store)).dirs dir name ts) d)
      | inr other ↦ elim (numbers_or_not q dir.0) [
        | inl same ↦ ap (get _) same ∙ cut_at ∙ sym (cut_away_n _ d q other ∙ ap (get _) same ∙ set_here_n (tree (still shard store)).dirs dir.0 _)
        | inr differ ↦ cut_elsewhere q differ (λ no. other (dir_same _ _ (no ∙ e))) ∙ sym (cut_away_n _ d q other ∙ set_away_n (tree (still shard store)).dirs dir.0 q _ differ)
      ]
    ])

    cut_as : (y : Node) → x ≡ y → tree (still cut_to store) ≡ after (tree (still shard store)) (cutter dir name y) None ts
    cut_as (File f) e = λ i. record { dirs = dirs_cut_file f.0 e i; files = files_stay i }
    cut_as (Dir d) e = λ i. record { dirs = (dirs_cut_dir d.0 e ∙ ap (without_dir (name_cut (tree (still shard store)).dirs dir name ts)) (sym (node_was ∙ ap Some e))) i; files = files_stay i }

  abbrev pub CutAs : Option DirRec → Type 0
  CutAs o = PlacesHold stage' (cut_by o) store lasts' → tree (still (cut_by o) store) ≡ after (tree (still shard store)) (cutter dir name x) None ts

  pub cut_makes : PlacesHold stage' (row_cut shard owner at dir name x ts) store lasts' → tree (still (row_cut shard owner at dir name x ts) store) ≡ after (tree (still shard store)) (cutter dir name x) None ts
  cut_makes =
      let rec = open_rec dir.0 (get shard.recs dir.0) (stage (Dir dir)) opens_here (h.nodes (Dir dir)) in
      subst CutAs (sym rec.1) (λ h'. cut_as rec.0 rec.1 h' x refl)

module _ (stage stage' : Node → Stage) (shard : Shard) (store : Store) (lasts lasts' : ℕ → ℕ) (h : PlacesHold stage shard store lasts) where
  -- a file is deleted: it has lost its name, and stays until its record is dropped
  pub delete_makes : (file : FileId) (owner : Actor) (dir : DirId) (name : List ℕ) (at : Stamp) (ts : Ts) → Shifts stage stage' (File file) (from (Deletes owner dir name at)) (to (Deletes owner dir name at))
      → PlacesHold stage' (row_cut shard owner at dir name (File file) ts) store lasts'
      → tree (still (row_cut shard owner at dir name (File file) ts) store) ≡ after (tree (still shard store)) (Unlink dir name) None ts
  delete_makes file owner dir name at ts shifts h' =
      let found = row_there (get shard.rows (row_key dir name)) (File file) (h.named (File file) (row_key dir name) (ap key_of shifts.was)) in
      cut_makes stage stage' shard store lasts lasts' h (File file) (Named dir name) (dir.0 % 64) owner at dir name ts shifts found.0 found.1 found.2 (λ e. cc) (λ f e. refl) h'

  -- a directory that is marked is removed, by anyone
  pub remove_makes : (note : MarkNote) (at : Stamp) → Shifts stage stage' (Dir note.child) (from (Removes note at)) (to (Removes note at))
      → PlacesHold stage' (row_cut shard (ClientActor note.owner) at note.dir note.name (Dir note.child) note.ts) store lasts'
      → tree (still (row_cut shard (ClientActor note.owner) at note.dir note.name (Dir note.child) note.ts) store) ≡ after (tree (still shard store)) (Rmdir note.dir note.name) None note.ts
  remove_makes note at shifts h' =
      let found = row_there (get shard.rows (row_key note.dir note.name)) (Dir note.child) (h.named (Dir note.child) (row_key note.dir note.name) (ap key_of shifts.was)) in
      cut_makes stage stage' shard store lasts lasts' h (Dir note.child) (Marked note) (note.dir.0 % 64) (ClientActor note.owner) at note.dir note.name note.ts shifts found.0 found.1 found.2
      (λ e. true_false (is_open (stage (Dir note.dir))) (h.housed note.dir.0 note.name found.0 found.1) (ap (λ z. is_open (stage z)) e ∙ ap is_open shifts.was)) (λ f e. absurd (cc)) h'

  -- the record of a file without a name is dropped
  pub drop_makes : (f : FileId) (owner : Actor) (p : ℕ) (at : Stamp) → Shifts stage stage' (File f) (from (Drops owner p at)) (to (Drops owner p at))
      → PlacesHold stage' shard (remove store f.0) lasts' → tree (still shard (remove store f.0)) ≡ forget (tree (still shard store)) f.0
  drop_makes f owner p at shifts h' = λ i. record { dirs = dirs i; files = files i }
    where
      dirs : (tree (still shard (remove store f.0))).dirs ≡ (tree (still shard store)).dirs
      dirs = dirs_same stage stage' shard shard store (remove store f.0) lasts lasts' h h' (λ d. refl) (λ d. ap (λ s. option_map rec_date (cond (is_in s) (get shard.recs d) None)) (shifts.away (dir_at d) (λ e. cc)))

      files : (tree (still shard (remove store f.0))).files ≡ remove (tree (still shard store)).files f.0
      files = same_map nat_cmp_total nat_cmp-IsAntisymmetric _ _ (λ q. get_files stage' shard (remove store f.0) lasts' h' q ∙ elim (numbers_or_not q f.0) [
        | inl same ↦ ap (λ g. shown_file (stage' (file_at g)) (get (remove store f.0) g)) same ∙ ap (λ t. shown_file t (get (remove store f.0) f.0)) shifts.now
            ∙ sym (ap (get _) same ∙ cut_here_n (tree (still shard store)).files f.0)
        | inr differ ↦ ap (λ t. shown_file t (get (remove store f.0) q)) (shifts.away (file_at q) (λ e. differ (file_same _ _ e))) ∙ ap (shown_file (stage (file_at q))) (cut_away_n store f.0 q differ)
            ∙ sym (get_files stage shard store lasts h q) ∙ sym (cut_away_n (tree (still shard store)).files f.0 q differ)
      ])

-- ---- a size is set
pub resize_makes : (stage : Node → Stage) (shard : Shard) (store : Store) (lasts lasts' : ℕ → ℕ) → PlacesHold stage shard store lasts → (file : FileId) (size : ℕ) (ts : Ts) (r : FileRec)
    → get store file.0 ≡ Some r → is_kept (stage (File file)) ≡ true → PlacesHold stage shard (insert store file.0 (record r { size = size; time = later r.time ts })) lasts'
    → tree (still shard (insert store file.0 (record r { size = size; time = later r.time ts }))) ≡ after (tree (still shard store)) (Truncate file size) None ts
resize_makes stage shard store lasts lasts' h file size ts r there kept h' = λ i. record { dirs = dirs i; files = files i }
  where
    new : FileRec
    new = record r { size = size; time = later r.time ts }

    dirs : (tree (still shard (insert store file.0 (record r { size = size; time = later r.time ts })))).dirs ≡ (tree (still shard store)).dirs
    dirs = dirs_same stage stage shard shard store _ lasts lasts' h h' (λ d. refl) (λ d. refl)

    was : get (tree (still shard store)).files file.0 ≡ Some (facts_of r)
    was = get_files stage shard store lasts h file.0 ∙ ap (λ b. option_map facts_of (cond b (get store file.0) None)) kept ∙ ap (option_map facts_of) there

    files : (tree (still shard (insert store file.0 (record r { size = size; time = later r.time ts })))).files ≡ insert (tree (still shard store)).files file.0 (cut_file (get (tree (still shard store)).files file.0) size ts)
    files = same_map nat_cmp_total nat_cmp-IsAntisymmetric _ _ (λ q. get_files stage shard _ lasts' h' q ∙ elim (numbers_or_not q file.0) [
      | inl same ↦ ap (λ g. shown_file (stage (file_at g)) (get (insert store file.0 (record r { size = size; time = later r.time ts })) g)) same
          ∙ ap (λ b. option_map facts_of (cond b (get (insert store file.0 (record r { size = size; time = later r.time ts })) file.0) None)) kept
          ∙ ap (option_map facts_of) (set_here_n store file.0 _)
          ∙ sym (ap (get _) same ∙ set_here_n (tree (still shard store)).files file.0 _ ∙ ap (λ o. Some (cut_file o size ts)) was)
      | inr differ ↦ ap (shown_file (stage (file_at q))) (set_away_n store file.0 q _ differ) ∙ sym (get_files stage shard store lasts h q) ∙ sym (set_away_n (tree (still shard store)).files file.0 q _ differ)
    ])
