-- The tree that the places hold, by the stages of the nodes.
use Rattle.std.proofs.Common.{◌≡◌, ◌≢◌, ℕ, List, ◌∷◌, Bool, true, false, cond, refl, sym, ◌∙◌, ap, inl, inr}
use Rattle.std.proofs.Math.Bool.{or-true}
use Rattle.std.specs.Prelude.{◌||◌, not, Option, Some, None}
use Rattle.std.specs.Option.{option_map}
use Rattle.std.specs.Ordering.{nat_cmp}
use Rattle.std.specs.Cmp.{nat_cmp_total}
use Rattle.std.specs.Cmp.Lexicographic.{slice_cmp, nat_list_cmp_total}
use Rattle.std.specs.FinMap.{get, empty, entries, get-empty, get-entries, same_map, nat_cmp-IsAntisymmetric}
use Rattle.next_ids.specs.declared.ids.Node.{Node}
use Rattle.next_ids.specs.declared.ids.Node.TheVariants.{Dir, File}
use Rattle.next_ids.specs.Maps.{Names, within}
use Rattle.next_ids.specs.Namespace.{Directory, is_node, node_at}
use Rattle.next_ids.specs.Times.{start, later}
use Rattle.next_ids.proofs.Entries.{entries-empty}
use Rattle.next_ids.proofs.TimeLemmas.{later-start, later-comm}
use Rattle.next_steps.specs.declared.contents.Row.{Row}
use Rattle.next_steps.specs.declared.contents.RowLock.{RowLock}
use Rattle.next_steps.specs.declared.contents.DirRec.{DirRec}
use Rattle.next_steps.specs.declared.contents.FileRec.{FileRec}
use Rattle.next_steps.specs.declared.contents.Debt.{Debt}
use Rattle.next_rules.specs.Contents.{Shard, Store, attr_of, debt_key}
use Rattle.next_rules.specs.Changes.{node_in}
use Rattle.next_rules.specs.Reading.{names_of}
use Rattle.next_rules.specs.Trees.{is_dead, live_rows, is_named, owed_node, is_owed, is_shown, names_in, rec_time, dead_time, time_of, directory_of, is_settled, facts_of, tree}
use Rattle.next_rules.specs.Worlds.{Service}
use Rattle.next_rules.proofs.Names.{bytes_apart, get-names_of}
use Rattle.next_rules.proofs.TreeLookups.{get-tree_dirs, get-tree_files}
use Rattle.next_laws_namespace.proofs.Found.{found-name, passes-name}
use Rattle.next_laws_tree.proofs.LiveNames.{get-live, named-row, row-named, get-names_in, shown-by, shown-how, names-shown, dir-there, node-live}
use Rattle.next_laws_stages.specs.Stages.{Stage, Unborn, Root, Fresh, Named, Marked, Owed, Cleared, Gone, is_in, is_kept, key_of, debt_of}
use Rattle.next_laws_stages.specs.Held.{FileIs, DirIs, IsDebtKey, PlacesHold, place_at, dir_at, still}
use Rattle.next_laws_stages.proofs.Known.{open_in}
use Rattle.next_laws_stages.proofs.Maps.{numbers_or_not}
use Rattle.next_laws_stages.proofs.Stages.{names_true, names_same}

abbrev pub file_at : ℕ → Node
file_at f = File (record { 0 = f })

-- ---- without locks
abbrev pub bare : Shard → Shard
bare shard = record shard { locks = empty }

no_lock : (key : List ℕ) → get (empty {X = RowLock} {R = slice_cmp nat_cmp}) key ≡ None
no_lock key = get-empty {X = RowLock} (slice_cmp nat_cmp) key

-- every row is live
pub live-bare : (shard : Shard) (key : List ℕ) → get (live_rows (bare shard)) key ≡ get shard.rows key
live-bare shard key = get-live (bare shard) key ∙ ap (λ o. cond (not (is_dead (bare shard) o)) (get shard.rows key) None) (no_lock key)

no_dead_time : (v : Service) (d : ℕ) → v.shard.locks ≡ empty → dead_time v (within d (entries v.shard.locks)) ≡ start
no_dead_time v d none = ap (λ m. dead_time v (within d (entries m))) none ∙ ap (λ es. dead_time v (within d es)) (entries-empty {X = RowLock} (slice_cmp nat_cmp))

pub time-free : (v : Service) (d : ℕ) → v.shard.locks ≡ empty → time_of v d ≡ rec_time (get v.shard.recs d)
time-free v d none = ap (later (rec_time (get v.shard.recs d))) (no_dead_time v d none) ∙ later-comm (rec_time (get v.shard.recs d)) start ∙ later-start (rec_time (get v.shard.recs d))

-- the tree of a service without locks is that of its rows, records and debts
module _ (v : Service) (none : v.shard.locks ≡ empty) where
  bare-same : v.shard ≡ bare v.shard
  bare-same = λ i. record v.shard { locks = none i }

  directories-same : (d : ℕ) → directory_of v d ≡ directory_of (still v.shard v.store) d
  directories-same d = λ i. record { names = names_in (bare-same i) d; time = times i }
    where
      times : time_of v d ≡ time_of (still v.shard v.store) d
      times = time-free v d none ∙ sym (time-free (still v.shard v.store) d refl)

  pub tree-still : tree v ≡ tree (still v.shard v.store)
  tree-still = λ i. record { dirs = dirs i; files = files i }
    where
      dirs : (tree v).dirs ≡ (tree (still v.shard v.store)).dirs
      dirs = same_map nat_cmp_total nat_cmp-IsAntisymmetric _ _ (λ d. get-tree_dirs v d
          ∙ ap (λ x. cond (is_shown v.shard d) (Some x) None) (directories-same d)
          ∙ ap (λ s. cond (is_shown s d) (Some (directory_of (still v.shard v.store) d)) None) bare-same
          ∙ sym (get-tree_dirs (still v.shard v.store) d))

      files : (tree v).files ≡ (tree (still v.shard v.store)).files
      files = same_map nat_cmp_total nat_cmp-IsAntisymmetric _ _ (λ f. get-tree_files v f
          ∙ ap (λ s. option_map facts_of (cond (is_settled (get v.store f) || (is_named s (file_at f) || is_owed s (file_at f))) (get v.store f) None)) bare-same
          ∙ sym (get-tree_files (still v.shard v.store) f))

-- ---- by stages
abbrev pub has_key : Option (List ℕ) → Bool
has_key None = false
has_key (Some k) = true

abbrev pub has_debt : Option (ℕ × Debt) → Bool
has_debt None = false
has_debt (Some d) = true

both : (a b : Bool) → (a ≡ true → b ≡ true) → (b ≡ true → a ≡ true) → a ≡ b
both true true f g = refl
both true false f g = sym (f refl)
both false true f g = g refl
both false false f g = refl

or-right : (a b : Bool) → b ≡ true → (a || b) ≡ true
or-right true b h = refl
or-right false b h = h

-- what a directory's record shows, with these names
abbrev pub dated : Names Node → Option DirRec → Option Directory
dated ns o = option_map (λ (r : DirRec). record { names = ns; time = (attr_of r).time }) o

-- the node of a debt's key
key_tells : (p : ℕ) (x : Node) → owed_node (debt_key (place_at p) x) ≡ x
key_tells p (File f) = refl
key_tells p (Dir d) = refl

module _ (stage : Node → Stage) (shard : Shard) (store : Store) (lasts : ℕ → ℕ) (h : PlacesHold stage shard store lasts) where
  abbrev pub here : Service
  here = still shard store

  -- a row names the node just where its stage has a key
  pub named_is : (x : Node) → is_named (bare shard) x ≡ has_key (key_of (stage x))
  named_is x = both _ _ found (there (key_of (stage x)) refl)
    where
      found : is_named (bare shard) x ≡ true → has_key (key_of (stage x)) ≡ true
      found e =
          let f = named-row (bare shard) x e in
          ap has_key (ap (λ y. key_of (stage y)) (names_true x f.row.node f.names) ∙ h.rows f.key f.row (sym (live-bare shard f.key) ∙ f.there))

      by_row : (k : List ℕ) (o : Option Row) → get shard.rows k ≡ o → node_in o ≡ Some x → is_named (bare shard) x ≡ true
      by_row k None e n = absurd (cc)
      by_row k (Some row) e n = let same : row.node ≡ x = cc in row-named (bare shard) x k row (live-bare shard k ∙ e) (ap (is_node x) same ∙ names_same x)

      there : (o : Option (List ℕ)) → key_of (stage x) ≡ o → has_key o ≡ true → is_named (bare shard) x ≡ true
      there None e n = absurd (cc)
      there (Some k) e n = by_row k (get shard.rows k) refl (h.named x k e)

  -- a debt names the node just where its stage has one
  owed_one : (key : List ℕ) (debt : Debt) (x : Node) → get shard.debts key ≡ Some debt → IsDebtKey key → is_node x (owed_node key) ≡ true → has_debt (debt_of (stage x)) ≡ true
  owed_one key debt x e it names =
      let is : x ≡ it.1 = names_true x it.1 (sym (ap (λ k. is_node x (owed_node k)) it.2 ∙ ap (is_node x) (key_tells it.0 it.1)) ∙ names) in
      ap has_debt (ap (λ y. debt_of (stage y)) is ∙ h.debts it.0 it.1 debt (ap (get shard.debts) (sym it.2) ∙ e))

  pub owed_is : (x : Node) → is_owed shard x ≡ has_debt (debt_of (stage x))
  owed_is x = both _ _ found (there (debt_of (stage x)) refl)
    where
      found : is_owed shard x ≡ true → has_debt (debt_of (stage x)) ≡ true
      found e =
          let f = found-name (λ e. is_node x (owed_node e.0)) shard.debts e in
          let at = get-entries shard.debts f.key ∙ f.there in
          owed_one f.key f.value x at (h.keyed f.key f.value at) f.passes

      there : (o : Option (ℕ × Debt)) → debt_of (stage x) ≡ o → has_debt o ≡ true → is_owed shard x ≡ true
      there None e n = absurd (cc)
      there (Some d) e n = passes-name (λ e. is_node x (owed_node e.0)) shard.debts (debt_key (place_at d.0) x) d.1 (h.owed d.0 x d.1 e) (ap (is_node x) (key_tells d.0 x) ∙ names_same x)

  -- ---- directories
  named_in : (d : ℕ) (s : Stage) → DirIs d (get shard.recs d) s → d ≢ 0 → has_key (key_of s) ≡ is_in s
  named_in d Root it differ = absurd (differ it.0)
  named_in d Unborn it differ = refl
  named_in d (Fresh client ts dir name) it differ = refl
  named_in d (Named dir name) it differ = refl
  named_in d (Marked note) it differ = refl
  named_in d (Owed owner p at) it differ = refl
  named_in d (Cleared owner p at) it differ = refl
  named_in d Gone it differ = refl

  -- a directory is shown just where its stage says so
  pub shown_is : (d : ℕ) → is_shown (bare shard) d ≡ is_in (stage (dir_at d))
  shown_is d = elim (numbers_or_not d 0) [ inl e ↦ at_root e | inr differ ↦ both _ _ (found differ) (there differ) ]
    where
      zero_shown : is_shown (bare shard) 0 ≡ true
      zero_shown = shown-by (bare shard) 0

      at_root : d ≡ 0 → is_shown (bare shard) d ≡ is_in (stage (dir_at d))
      at_root e = ap (is_shown (bare shard)) e ∙ zero_shown ∙ sym (ap (λ q. is_in (stage (dir_at q))) e ∙ ap is_in h.root)

      named_here : d ≢ 0 → is_named (bare shard) (dir_at d) ≡ is_in (stage (dir_at d))
      named_here differ = named_is (dir_at d) ∙ named_in d (stage (dir_at d)) (h.nodes (dir_at d)) differ

      found : d ≢ 0 → is_shown (bare shard) d ≡ true → is_in (stage (dir_at d)) ≡ true
      found differ e = elim (shown-how (bare shard) d differ e) [
        | inl lies ↦ open_in (stage (dir_at d)) (h.housed d lies.0 lies.1 (sym (live-bare shard (d ∷ lies.0)) ∙ lies.2))
        | inr named ↦ sym (named_here differ) ∙ named
      ]

      there : d ≢ 0 → is_in (stage (dir_at d)) ≡ true → is_shown (bare shard) d ≡ true
      there differ e =
          let r = named-row (bare shard) (dir_at d) (named_here differ ∙ e) in
          names-shown (bare shard) d r.key r.row r.there (sym (names_true (dir_at d) r.row.node r.names))

  names_bare : (d : ℕ) → names_in (bare shard) d ≡ names_of shard d
  names_bare d = same_map nat_list_cmp_total bytes_apart _ _ (λ q. get-names_in (bare shard) d q ∙ ap node_in (live-bare shard (d ∷ q)) ∙ node_of (get shard.rows (d ∷ q)) ∙ sym (get-names_of shard d q))
    where
      node_of : (o : Option Row) → node_in o ≡ option_map (λ (row : Row). row.node) o
      node_of None = refl
      node_of (Some row) = refl

  in_rec : (d : ℕ) (o : Option DirRec) (s : Stage) → is_in s ≡ true → DirIs d o s → (r : DirRec) × (o ≡ Some r)
  in_rec d o Root e it = (it.1.r, it.1.there)
  in_rec d o (Named dir name) e it = (it.r, it.there)
  in_rec d o (Marked note) e it = (it.1.r, it.1.there)
  in_rec d o s e it = absurd (cc)

  pub rec_of_in : (d : ℕ) → is_in (stage (dir_at d)) ≡ true → (r : DirRec) × (get shard.recs d ≡ Some r)
  rec_of_in d e = in_rec d (get shard.recs d) (stage (dir_at d)) e (h.nodes (dir_at d))

  -- a directory that is in the tree, and one that isn't
  pub dir_there : (d : ℕ) (r : DirRec) → is_in (stage (dir_at d)) ≡ true → get shard.recs d ≡ Some r → get (tree here).dirs d ≡ Some (record { names = names_of shard d; time = (attr_of r).time })
  dir_there d r e there =
      dir-there here d (shown_is d ∙ e)
      ∙ (λ i. Some (record { names = names_bare d i; time = time-free here d refl i }))
      ∙ ap (λ o. Some (record { names = names_of shard d; time = rec_time o })) there

  pub dir_gone : (d : ℕ) → is_in (stage (dir_at d)) ≡ false → get (tree here).dirs d ≡ None
  dir_gone d e = get-tree_dirs here d ∙ ap (λ b. cond b (Some (directory_of here d)) None) (shown_is d ∙ e)

  pub dirs_by : (d : ℕ) → get (tree here).dirs d ≡ dated (names_of shard d) (cond (is_in (stage (dir_at d))) (get shard.recs d) None)
  dirs_by d = by_test (is_in (stage (dir_at d))) refl
    where
      by_test : (b : Bool) → is_in (stage (dir_at d)) ≡ b → get (tree here).dirs d ≡ dated (names_of shard d) (cond b (get shard.recs d) None)
      by_test true e = let r = rec_of_in d e in dir_there d r.0 e r.1 ∙ ap (dated (names_of shard d)) (sym r.1)
      by_test false e = dir_gone d e

  -- what the tree has of a name is what the rows have, in or out of it
  pub node_told : (d : ℕ) (name : List ℕ) → node_at (get (tree here).dirs d) name ≡ node_in (get shard.rows (d ∷ name))
  node_told d name = node-live here d name ∙ ap node_in (live-bare shard (d ∷ name))

  -- ---- files
  nothing : (b : Bool) → cond {A = Option FileRec} b None None ≡ None
  nothing true = refl
  nothing false = refl

  kept_by : (s : Stage) (o : Option FileRec) → FileIs o s → (n : Bool) → n ≡ has_key (key_of s) → (w : Bool) → w ≡ has_debt (debt_of s) → cond (is_settled o || (n || w)) o None ≡ cond (is_kept s) o None
  kept_by Root o it n ne w we = absurd it
  kept_by (Fresh client ts dir name) o it n ne w we = rw (it, ne, we) refl
  kept_by (Named dir name) o it n ne w we = rw (it.1, ne, or-true (is_settled (Some it.0))) refl
  kept_by (Marked note) o it n ne w we = absurd it
  kept_by (Owed owner p at) o it n ne w we = rw (it.1, we, or-true n, or-true (is_settled (Some it.0))) refl
  kept_by Unborn o it n ne w we = rw it (nothing _)
  kept_by (Cleared owner p at) o it n ne w we = rw it (nothing _)
  kept_by Gone o it n ne w we = rw it (nothing _)

  -- a file counts just where its stage says so
  pub get_files : (f : ℕ) → get (tree here).files f ≡ option_map facts_of (cond (is_kept (stage (file_at f))) (get store f) None)
  get_files f = get-tree_files here f ∙ ap (option_map facts_of) (kept_by (stage (file_at f)) (get store f) (h.nodes (file_at f)) (is_named (bare shard) (file_at f)) (named_is (file_at f)) (is_owed shard (file_at f)) (owed_is (file_at f)))
