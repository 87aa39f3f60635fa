-- A row that is set makes the tree what a create or a mkdir leaves.
use Rattle.std.proofs.Common.{◌≡◌, ◌≢◌, ℕ, List, [], ◌∷◌, true, false, refl, sym, ◌∙◌, ap, subst, arith, inl, inr}
use Rattle.std.specs.Prelude.{Some}
use Rattle.std.proofs.lemmas.Bool.Decides.{nat_tests}
use Rattle.std.specs.Option.{option_map}
use Rattle.std.specs.Cmp.{nat_cmp_total}
use Rattle.std.specs.Cmp.Lexicographic.{nat_list_cmp_total}
use Rattle.std.specs.FinMap.{get, insert, empty, gets, same_map, nat_cmp-IsAntisymmetric}
use Rattle.next_ids.specs.declared.ids.DirId.{DirId}
use Rattle.next_ids.specs.declared.ids.Node.{Node}
use Rattle.next_ids.specs.declared.ids.Node.TheVariants.{Dir, File}
use Rattle.next_ids.specs.declared.ids.Stamp.{Stamp}
use Rattle.next_ids.specs.declared.time.Ts.{Ts}
use Rattle.next_ids.specs.Maps.{Names, row_key}
use Rattle.next_ids.specs.Namespace.{with_name, after}
use Rattle.next_ids.specs.Times.{later}
use Rattle.next_ids.proofs.TimeLemmas.{later-comm}
use Rattle.next_steps.specs.declared.contents.Row.{Row}
use Rattle.next_steps.specs.declared.contents.DirRec.{DirRec}
use Rattle.next_steps.specs.Writers.{maker}
use Rattle.next_rules.specs.Actors.{client_of}
use Rattle.next_rules.specs.Contents.{Shard, Store}
use Rattle.next_rules.specs.Changes.{set_row, update, delta_of}
use Rattle.next_rules.specs.Primitives.{new_dir}
use Rattle.next_rules.specs.Reading.{names_of}
use Rattle.next_rules.specs.Trees.{facts_of, tree}
use Rattle.next_rules.proofs.Names.{bytes_apart, get-names_of}
use Rattle.next_rules.proofs.Sums.{with_delta, time-grown}
use Rattle.next_laws_stages.specs.Stages.{Stage, Fresh, Named, is_in, is_open}
use Rattle.next_laws_stages.specs.Held.{FileIs, DirIs, PlacesHold, dir_at, still}
use Rattle.next_laws_stages.proofs.Effects.{true_false}
use Rattle.next_laws_stages.proofs.Known.{no_rows_in, open_in}
use Rattle.next_laws_stages.proofs.Maps.{set_here_n, set_away_n, numbers_or_not}
use Rattle.next_laws_stages.proofs.Moves.{rec_date, shown_file, file_same, dir_same, no_names, files_same, row_here, row_away}
use Rattle.next_laws_stages.proofs.Shown.{file_at, dir_there, get_files}
use Rattle.next_laws_stages.proofs.Stages.{Shifts}

-- ---- the names of a directory where a row is set
module _ (shard : Shard) (dir : DirId) (name : List ℕ) where
  names_set : (row : Row) → names_of (record shard { rows = insert shard.rows (row_key dir name) row }) dir.0 ≡ insert (names_of shard dir.0) name row.node
  names_set row = same_map nat_list_cmp_total bytes_apart _ _ (λ q.
      let a = get-names_of (record shard { rows = insert shard.rows (row_key dir name) row }) dir.0 q in
      let b = get-names_of shard dir.0 q in
      grind (arith, nat_tests, gets, a, b))

  names_set_away : (row : Row) (d : ℕ) → d ≢ dir.0 → names_of (record shard { rows = insert shard.rows (row_key dir name) row }) d ≡ names_of shard d
  names_set_away row d differ = same_map nat_list_cmp_total bytes_apart _ _ (λ q.
      let a = get-names_of (record shard { rows = insert shard.rows (row_key dir name) row }) d q in
      let b = get-names_of shard d q in
      grind (arith, nat_tests, gets, a, b))

-- the date of a record with a change more
pub date_grown : (r : DirRec) (come gone : List Node) (ts : Ts) → rec_date (with_delta r (delta_of come gone ts)) ≡ later (rec_date r) ts
date_grown r come gone ts = time-grown r (delta_of come gone ts) ∙ later-comm ts (rec_date r)

module _ (stage stage' : Node → Stage) (shard : Shard) (store : Store) (lasts lasts' : ℕ → ℕ) (h : PlacesHold stage shard store lasts)
    (x : Node) (client : ℕ) (ts : Ts) (dir : DirId) (name : List ℕ) (shifts : Shifts stage stage' x (Fresh client ts dir name) (Named dir name))
    (at : Stamp) (r : DirRec) (there : get shard.recs dir.0 ≡ Some r) (opens : is_open (stage (Dir dir)) ≡ true)
    (h' : PlacesHold stage' (update (set_row shard dir name x at) dir (x ∷ []) [] ts (Some r)) store lasts') where
  abbrev set : Shard
  set = update (set_row shard dir name x at) dir (x ∷ []) [] ts (Some r)

  abbrev grown : DirRec
  grown = with_delta r (delta_of (x ∷ []) [] ts)

  abbrev row : Row
  row = record { node = x; stamp = at }

  fresh_apart : Dir dir ≢ x
  fresh_apart e = true_false (is_open (stage (Dir dir))) opens (ap (λ z. is_open (stage z)) e ∙ ap is_open shifts.was)

  set_at : get (tree (still set store)).dirs dir.0 ≡ Some (with_name (get (tree (still shard store)).dirs dir.0) name x ts)
  set_at =
      row_here stage stage' shard set store store lasts lasts' h h' x _ _ shifts dir r grown refl opens fresh_apart _ (names_set shard dir name row) (names_set_away shard dir name row)
      ∙ ap (λ (t : Ts). Some (record { names = insert (names_of shard dir.0) name x; time = t })) (date_grown r (x ∷ []) [] ts)
      ∙ ap (λ o. Some (with_name o name x ts)) (sym (dir_there stage shard store lasts h dir.0 r (open_in (stage (Dir dir)) opens) there))

  set_elsewhere : (d : ℕ) → d ≢ dir.0 → dir_at d ≢ x → get (tree (still set store)).dirs d ≡ get (tree (still shard store)).dirs d
  set_elsewhere = row_away stage stage' shard set store store lasts lasts' h h' x _ _ shifts dir r grown refl opens fresh_apart _ (names_set shard dir name row) (names_set_away shard dir name row)

  dirs_of_file : (f : ℕ) → x ≡ file_at f → (tree (still set store)).dirs ≡ insert (tree (still shard store)).dirs dir.0 (with_name (get (tree (still shard store)).dirs dir.0) name x ts)
  dirs_of_file f e = same_map nat_cmp_total nat_cmp-IsAntisymmetric _ _ (λ q. elim (numbers_or_not q dir.0) [
    | inl same ↦ ap (get _) same ∙ set_at ∙ sym (ap (get _) same ∙ set_here_n (tree (still shard store)).dirs dir.0 _)
    | inr differ ↦ set_elsewhere q differ (λ no. let k = no ∙ e in cc) ∙ sym (set_away_n (tree (still shard store)).dirs dir.0 q _ differ)
  ])

  files_of_file : (f : ℕ) → x ≡ file_at f → (tree (still set store)).files ≡ insert (tree (still shard store)).files f (record { size = 0; time = ts })
  files_of_file f e = same_map nat_cmp_total nat_cmp-IsAntisymmetric _ _ (λ q. get_files stage' set store lasts' h' q ∙ elim (numbers_or_not q f) [
    | inl same ↦ ap (λ g. shown_file (stage' (file_at g)) (get store g)) same
        ∙ ap (λ t. shown_file t (get store f)) (ap stage' (sym e) ∙ shifts.now)
        ∙ ap (option_map facts_of) (subst (FileIs (get store f)) (ap stage (sym e) ∙ shifts.was) (h.nodes (file_at f)))
        ∙ sym (ap (get _) same ∙ set_here_n (tree (still shard store)).files f _)
    | inr differ ↦ ap (λ t. shown_file t (get store q)) (shifts.away (file_at q) (λ no. differ (file_same _ _ (no ∙ e)))) ∙ sym (get_files stage shard store lasts h q) ∙ sym (set_away_n (tree (still shard store)).files f q _ differ)
  ])

  files_of_dir : (d : ℕ) → x ≡ dir_at d → (tree (still set store)).files ≡ (tree (still shard store)).files
  files_of_dir d e = files_same stage stage' shard set store store lasts lasts' h h' (λ f. ap (λ t. shown_file t (get store f)) (shifts.away (file_at f) (λ no. let k = no ∙ e in cc)))

  dirs_of_dir : (d : ℕ) → x ≡ dir_at d
      → (tree (still set store)).dirs ≡ insert (insert (tree (still shard store)).dirs dir.0 (with_name (get (tree (still shard store)).dirs dir.0) name x ts)) d (record { names = empty; time = ts })
  dirs_of_dir d e = same_map nat_cmp_total nat_cmp-IsAntisymmetric _ _ (λ q. elim (numbers_or_not q d) [
    | inl child ↦ ap (get _) child ∙ new ∙ sym (ap (get _) child ∙ set_here_n _ d _)
    | inr other ↦ elim (numbers_or_not q dir.0) [
      | inl same ↦ ap (get _) same ∙ set_at ∙ sym (set_away_n _ d q _ other ∙ ap (get _) same ∙ set_here_n (tree (still shard store)).dirs dir.0 _)
      | inr differ ↦ set_elsewhere q differ (λ no. other (dir_same _ _ (no ∙ e))) ∙ sym (set_away_n _ d q _ other ∙ set_away_n (tree (still shard store)).dirs dir.0 q _ differ)
    ]
  ])
    where
      differs : d ≢ dir.0
      differs same = fresh_apart (ap dir_at (sym same) ∙ sym e)

      hidden : is_open (stage (dir_at d)) ≡ false
      hidden = ap (λ z. is_open (stage z)) (sym e) ∙ ap is_open shifts.was

      rec : get set.recs d ≡ Some (new_dir (client_of client) dir name ts)
      rec = set_away_n shard.recs dir.0 d _ differs ∙ subst (DirIs d (get shard.recs d)) (ap stage (sym e) ∙ shifts.was) (h.nodes (dir_at d))

      new : get (tree (still set store)).dirs d ≡ Some (record { names = empty; time = ts })
      new = dir_there stage' set store lasts' h' d (new_dir (client_of client) dir name ts) (ap (λ z. is_in (stage' z)) (sym e) ∙ ap is_in shifts.now) rec
          ∙ ap (λ (n : Names Node). Some (record { names = n; time = ts })) (names_set_away shard dir name row d differs ∙ no_names shard d (no_rows_in stage shard store lasts h d hidden))

  abbrev pub Inserted : Node → Type 0
  Inserted y = tree (still set store) ≡ after (tree (still shard store)) (maker dir name y) (Some y) ts

  inserted_by : (y : Node) → x ≡ y → Inserted y
  inserted_by (File f) e = λ i. record { dirs = (dirs_of_file f.0 e ∙ ap (λ z. insert (tree (still shard store)).dirs dir.0 (with_name (get (tree (still shard store)).dirs dir.0) name z ts)) e) i; files = files_of_file f.0 e i }
  inserted_by (Dir d) e = λ i. record { dirs = (dirs_of_dir d.0 e ∙ ap (λ z. insert (insert (tree (still shard store)).dirs dir.0 (with_name (get (tree (still shard store)).dirs dir.0) name z ts)) d.0 (record { names = empty; time = ts })) e) i; files = files_of_dir d.0 e i }

  -- a node that was put with the time of the call is named
  pub insert_makes : Inserted x
  insert_makes = inserted_by x refl
