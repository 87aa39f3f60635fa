-- What each change of the places does to the namespace that they hold.
use Rattle.std.proofs.Common.{◌≡◌, ◌≢◌, ℕ, List, ◌∷◌, Bool, true, false, cond, refl, sym, ◌∙◌, ap, arith}
use Rattle.std.proofs.Math.Bool.{or-true}
use Rattle.std.specs.Prelude.{◌||◌, ◌==◌, Option, Some, None, max, is_none}
use Rattle.std.proofs.lemmas.Bool.Decides.{nat_tests}
use Rattle.std.specs.Option.{option_map}
use Rattle.std.specs.Ordering.{nat_cmp}
use Rattle.std.specs.Cmp.{nat_cmp_total}
use Rattle.std.specs.Cmp.Lexicographic.{slice_cmp, nat_list_cmp_total}
use Rattle.std.specs.FinMap.{get, insert, remove, empty, gets, get-empty, same_map, nat_cmp-IsAntisymmetric}
use Rattle.cfs_ids.specs.declared.ids.DirId.{DirId}
use Rattle.cfs_ids.specs.declared.ids.FileId.{FileId}
use Rattle.cfs_ids.specs.declared.ids.Client.{Client}
use Rattle.cfs_ids.specs.declared.ids.Stamp.{Stamp}
use Rattle.cfs_ids.specs.declared.ids.Node.{Node}
use Rattle.cfs_ids.specs.declared.ids.Node.TheVariants.{Dir, File}
use Rattle.cfs_ids.specs.Maps.{Names, Numbers, row_key}
use Rattle.cfs_ids.specs.Namespace.{Directory, with_name, names_file, names_dir}
use Rattle.cfs_steps.specs.declared.contents.DirRec.{DirRec}
use Rattle.cfs_steps.specs.declared.contents.FileRec.{FileRec}
use Rattle.cfs_rules.specs.Places.{Shard, Store, with_row, with_recs, names_of, updated}
use Rattle.cfs_rules.specs.Trees.{is_named, is_placed, is_shown, directory_of, is_settled, is_counted, facts_of, tree}
use Rattle.cfs_rules.proofs.Names.{bytes_apart, get-names_of}
use Rattle.cfs_rules.proofs.TreeLookups.{get-tree_dirs, get-tree_files}
use Rattle.cfs_laws_places.proofs.Invariant.{get-insert_same, get-insert_other, get-remove_other, any-set_row}

-- a directory without rows has no names
pub no_names : (shard : Shard) (d : ℕ) → ((name : List ℕ) → get shard.rows (d ∷ name) ≡ None) → names_of shard d ≡ empty
no_names shard d none = same_map nat_list_cmp_total bytes_apart _ _ (λ q.
    get-names_of shard d q ∙ ap (option_map (λ row. row.node)) (none q) ∙ sym (get-empty {X = Node} (slice_cmp nat_cmp) q))

-- ---- the records change, and no row: the directories stay where those of the tree keep their times
abbrev time_of : DirRec → ℕ
time_of r = r.attr.time

abbrev with_names : Names Node → DirRec → Directory
with_names ns r = record { names = ns; time = r.attr.time }

pub dirs_alike : (shard : Shard) (recs : Numbers DirRec) (store store' : Store) → ((d : ℕ) → is_shown shard d ≡ true → option_map time_of (get recs d) ≡ option_map time_of (get shard.recs d))
    → (tree (with_recs shard recs) store').dirs ≡ (tree shard store).dirs
dirs_alike shard recs store store' alike = same_map nat_cmp_total nat_cmp-IsAntisymmetric _ _ (λ d.
    get-tree_dirs (with_recs shard recs) store' d ∙ by_test d (is_shown shard d) refl ∙ sym (get-tree_dirs shard store d))
  where
    by_time : (ns : Names Node) (x y : Option DirRec) → option_map time_of x ≡ option_map time_of y
        → option_map (with_names ns) x ≡ option_map (with_names ns) y
    by_time ns None None e = refl
    by_time ns None (Some s) e = cc
    by_time ns (Some r) None e = cc
    by_time ns (Some r) (Some s) e = let same : r.attr.time ≡ s.attr.time = cc in ap (λ (t : ℕ). Some (record { names = ns; time = t })) same

    by_test : (d : ℕ) (b : Bool) → is_shown shard d ≡ b → option_map (directory_of (with_recs shard recs) d) (cond b (get recs d) None) ≡ option_map (directory_of shard d) (cond b (get shard.recs d) None)
    by_test d true e = by_time (names_of shard d) (get recs d) (get shard.recs d) (alike d e)
    by_test d false e = refl

-- ---- a row is set
module _ (shard : Shard) (at : Stamp) (dir : DirId) (name : List ℕ) (node : Node) (ts : ℕ) (r : DirRec) where
  abbrev after : Shard
  after = with_row shard at dir name node ts r

  abbrev rec : DirRec
  rec = record r { attr = updated r.attr node ts }

  names_of-with_row : names_of after dir.0 ≡ insert (names_of shard dir.0) name node
  names_of-with_row = same_map nat_list_cmp_total bytes_apart _ _ (λ q.
      let a = get-names_of after dir.0 q in
      let b = get-names_of shard dir.0 q in
      grind (arith, nat_tests, gets, a, b))

  names_of_other-with_row : (d : ℕ) → d ≢ dir.0 → names_of after d ≡ names_of shard d
  names_of_other-with_row d differ = same_map nat_list_cmp_total bytes_apart _ _ (λ q.
      let a = get-names_of after d q in
      let b = get-names_of shard d q in
      grind (arith, nat_tests, gets, a, b))

  pub placed-with_row : get shard.rows (row_key dir name) ≡ None → (d : ℕ) → is_placed after d ≡ (names_dir d node || is_placed shard d)
  placed-with_row free d = any-set_row shard.rows (λ e. names_dir d e.1.node) (row_key dir name) (record { node = node; stamp = at }) free

  -- the directory of the row
  here : (store : Store) → get shard.recs dir.0 ≡ Some r → is_shown shard dir.0 ≡ true → is_shown after dir.0 ≡ true
      → get (tree after store).dirs dir.0 ≡ Some (with_name (get (tree shard store).dirs dir.0) name node ts)
  here store there shown shown' =
      get-tree_dirs after store dir.0
      ∙ ap (λ b. option_map (directory_of after dir.0) (cond b (get after.recs dir.0) None)) shown'
      ∙ ap (option_map (directory_of after dir.0)) (get-insert_same shard.recs dir.0 rec)
      ∙ ap (λ (ns : Names Node). Some (record { names = ns; time = max r.attr.time ts })) names_of-with_row
      ∙ ap (λ o. Some (with_name o name node ts)) (sym was)
    where
      was : get (tree shard store).dirs dir.0 ≡ Some (directory_of shard dir.0 r)
      was = get-tree_dirs shard store dir.0 ∙ ap (λ b. option_map (directory_of shard dir.0) (cond b (get shard.recs dir.0) None)) shown ∙ ap (option_map (directory_of shard dir.0)) there

  -- another one, which is in the tree as before
  elsewhere : (store : Store) (q : ℕ) → q ≢ dir.0 → is_shown after q ≡ is_shown shard q → get (tree after store).dirs q ≡ get (tree shard store).dirs q
  elsewhere store q differ alike =
      get-tree_dirs after store q
      ∙ ap (λ b. option_map (directory_of after q) (cond b (get after.recs q) None)) alike
      ∙ ap (λ o. option_map (directory_of after q) (cond (is_shown shard q) o None)) (get-insert_other shard.recs dir.0 q rec differ)
      ∙ ap (λ (ns : Names Node). option_map (with_names ns) (cond (is_shown shard q) (get shard.recs q) None)) (names_of_other-with_row q differ)
      ∙ sym (get-tree_dirs shard store q)

  -- the new one that the row names
  pub named_first : (store : Store) (child : ℕ) → child ≢ dir.0 → is_shown after child ≡ true → ((other : List ℕ) → get shard.rows (child ∷ other) ≡ None) → option_map time_of (get shard.recs child) ≡ Some ts
      → get (tree after store).dirs child ≡ Some (record { names = empty; time = ts })
  named_first store child differ shown none new =
      get-tree_dirs after store child
      ∙ ap (λ b. option_map (directory_of after child) (cond b (get after.recs child) None)) shown
      ∙ ap (option_map (directory_of after child)) (get-insert_other shard.recs dir.0 child rec differ)
      ∙ ap (λ (ns : Names Node). option_map (with_names ns) (get shard.recs child)) (names_of_other-with_row child differ ∙ no_names shard child none)
      ∙ by_time (get shard.recs child) new
    where
      by_time : (o : Option DirRec) → option_map time_of o ≡ Some ts → option_map (with_names empty) o ≡ Some (record { names = empty; time = ts })
      by_time None e = cc
      by_time (Some x) e = let same : x.attr.time ≡ ts = cc in ap (λ (t : ℕ). Some (record { names = empty {X = Node} {R = slice_cmp nat_cmp}; time = t })) same

  pub stays_shown : get shard.rows (row_key dir name) ≡ None → (d : ℕ) → is_shown shard d ≡ true → is_shown after d ≡ true
  stays_shown free d h = by_test (d == 0) (names_dir d node) (is_placed shard d) (is_placed after d) (placed-with_row free d) h
    where
      by_test : (b n p p' : Bool) → p' ≡ (n || p) → (b || p) ≡ true → (b || p') ≡ true
      by_test true n p p' e h = refl
      by_test false true p p' e h = e
      by_test false false p p' e h = e ∙ h

-- a row names a file
pub dirs-with_file : (shard : Shard) (at : Stamp) (dir : DirId) (name : List ℕ) (f : FileId) (ts : ℕ) (r : DirRec) (store : Store) → get shard.recs dir.0 ≡ Some r → is_shown shard dir.0 ≡ true → get shard.rows (row_key dir name) ≡ None
    → (tree (with_row shard at dir name (File f) ts r) store).dirs ≡ insert (tree shard store).dirs dir.0 (with_name (get (tree shard store).dirs dir.0) name (File f) ts)
dirs-with_file shard at dir name f ts r store there shown free = same_map nat_cmp_total nat_cmp-IsAntisymmetric _ _ (λ q. by_test q (q == dir.0) refl)
  where
    alike : (q : ℕ) → is_shown (with_row shard at dir name (File f) ts r) q ≡ is_shown shard q
    alike q = ap (λ b. (q == 0) || b) (placed-with_row shard at dir name (File f) ts r free q)

    by_test : (q : ℕ) (b : Bool) → (q == dir.0) ≡ b → get (tree (with_row shard at dir name (File f) ts r) store).dirs q ≡ get (insert (tree shard store).dirs dir.0 (with_name (get (tree shard store).dirs dir.0) name (File f) ts)) q
    by_test q true t =
        let same : q ≡ dir.0 = grind (arith, nat_tests) in
        rw same (here shard at dir name (File f) ts r store there shown (alike dir.0 ∙ shown) ∙ sym (get-insert_same (tree shard store).dirs dir.0 _))
    by_test q false t =
        let differ : q ≢ dir.0 = grind (arith, nat_tests) in
        elsewhere shard at dir name (File f) ts r store q differ (alike q) ∙ sym (get-insert_other (tree shard store).dirs dir.0 q _ differ)

-- a row names a new directory
pub dirs-with_dir : (shard : Shard) (at : Stamp) (dir : DirId) (name : List ℕ) (child : DirId) (ts : ℕ) (r : DirRec) (store : Store) → get shard.recs dir.0 ≡ Some r → is_shown shard dir.0 ≡ true → get shard.rows (row_key dir name) ≡ None
    → is_shown shard child.0 ≡ false → ((other : List ℕ) → get shard.rows (child.0 ∷ other) ≡ None) → option_map time_of (get shard.recs child.0) ≡ Some ts
    → (tree (with_row shard at dir name (Dir child) ts r) store).dirs
    ≡ insert (insert (tree shard store).dirs dir.0 (with_name (get (tree shard store).dirs dir.0) name (Dir child) ts)) child.0 (record { names = empty; time = ts })
dirs-with_dir shard at dir name child ts r store there shown free hidden none new = same_map nat_cmp_total nat_cmp-IsAntisymmetric _ _ (λ q. by_child q (q == child.0) refl)
  where
    differ : child.0 ≢ dir.0
    differ same = let again : is_shown shard dir.0 ≡ false = ap (is_shown shard) (sym same) ∙ hidden in cc

    now_shown : is_shown (with_row shard at dir name (Dir child) ts r) child.0 ≡ true
    now_shown = let is : (child.0 == child.0) ≡ true = grind (arith, nat_tests) in
        ap (λ b. (child.0 == 0) || b) (placed-with_row shard at dir name (Dir child) ts r free child.0 ∙ ap (λ b. b || is_placed shard child.0) is) ∙ or-true (child.0 == 0)

    alike : (q : ℕ) → q ≢ child.0 → is_shown (with_row shard at dir name (Dir child) ts r) q ≡ is_shown shard q
    alike q other = let no : (child.0 == q) ≡ false = grind (arith, nat_tests) in
        ap (λ b. (q == 0) || b) (placed-with_row shard at dir name (Dir child) ts r free q ∙ ap (λ b. b || is_placed shard q) no)

    by_dir : (q : ℕ) → q ≢ child.0 → (b : Bool) → (q == dir.0) ≡ b
        → get (tree (with_row shard at dir name (Dir child) ts r) store).dirs q ≡ get (insert (tree shard store).dirs dir.0 (with_name (get (tree shard store).dirs dir.0) name (Dir child) ts)) q
    by_dir q other true t =
        let same : q ≡ dir.0 = grind (arith, nat_tests) in
        rw same (here shard at dir name (Dir child) ts r store there shown (alike dir.0 (λ e. differ (sym e)) ∙ shown) ∙ sym (get-insert_same (tree shard store).dirs dir.0 _))
    by_dir q other false t =
        let away : q ≢ dir.0 = grind (arith, nat_tests) in
        elsewhere shard at dir name (Dir child) ts r store q away (alike q other) ∙ sym (get-insert_other (tree shard store).dirs dir.0 q _ away)

    by_child : (q : ℕ) (b : Bool) → (q == child.0) ≡ b → get (tree (with_row shard at dir name (Dir child) ts r) store).dirs q
        ≡ get (insert (insert (tree shard store).dirs dir.0 (with_name (get (tree shard store).dirs dir.0) name (Dir child) ts)) child.0 (record { names = empty; time = ts })) q
    by_child q true t =
        let same : q ≡ child.0 = grind (arith, nat_tests) in
        rw same (named_first shard at dir name (Dir child) ts r store child.0 differ now_shown none new ∙ sym (get-insert_same _ child.0 _))
    by_child q false t =
        let other : q ≢ child.0 = grind (arith, nat_tests) in
        by_dir q other (q == dir.0) refl ∙ sym (get-insert_other _ child.0 q _ other)

-- ---- the files
-- two trees have the same files where each file counts alike and has the same facts
files_alike : (shard shard' : Shard) (store store' : Store) → ((f : ℕ) → option_map facts_of (cond (is_counted shard' store' f) (get store' f) None) ≡ option_map facts_of (cond (is_counted shard store f) (get store f) None))
    → (tree shard' store').files ≡ (tree shard store).files
files_alike shard shard' store store' alike = same_map nat_cmp_total nat_cmp-IsAntisymmetric _ _ (λ f. get-tree_files shard' store' f ∙ alike f ∙ sym (get-tree_files shard store f))

-- a file is put that no row names
pub files-put : (shard : Shard) (store : Store) (f : ℕ) (v : FileRec) (c : Client) → v.owner ≡ Some c → is_named shard f ≡ false → get store f ≡ None → (tree shard (insert store f v)).files ≡ (tree shard store).files
files-put shard store f v c owner unnamed free = files_alike shard shard store (insert store f v) (λ g. by_test g (g == f) refl)
  where
    by_test : (g : ℕ) (b : Bool) → (g == f) ≡ b → option_map facts_of (cond (is_counted shard (insert store f v) g) (get (insert store f v) g) None) ≡ option_map facts_of (cond (is_counted shard store g) (get store g) None)
    by_test g true t = let same : g ≡ f = grind (arith, nat_tests) in rw (same, get-insert_same store f v, owner, unnamed, free) refl
    by_test g false t = let differ : g ≢ f = grind (arith, nat_tests) in rw (get-insert_other store f g v differ) refl

-- a named file is settled
pub files-settle : (shard : Shard) (store : Store) (f : ℕ) (v w : FileRec) → facts_of w ≡ facts_of v → is_named shard f ≡ true → get store f ≡ Some v → (tree shard (insert store f w)).files ≡ (tree shard store).files
files-settle shard store f v w alike named there = files_alike shard shard store (insert store f w) (λ g. by_test g (g == f) refl)
  where
    by_test : (g : ℕ) (b : Bool) → (g == f) ≡ b → option_map facts_of (cond (is_counted shard (insert store f w) g) (get (insert store f w) g) None) ≡ option_map facts_of (cond (is_counted shard store g) (get store g) None)
    by_test g true t = let same : g ≡ f = grind (arith, nat_tests) in rw (same, get-insert_same store f w, named, there, or-true (is_none w.owner), or-true (is_none v.owner)) (ap Some alike)
    by_test g false t = let differ : g ≢ f = grind (arith, nat_tests) in rw (get-insert_other store f g w differ) refl

-- an owned file that no row names goes
pub files-take_back : (shard : Shard) (store : Store) (f : ℕ) (v : FileRec) (c : Client) → v.owner ≡ Some c → is_named shard f ≡ false → get store f ≡ Some v → (tree shard (remove store f)).files ≡ (tree shard store).files
files-take_back shard store f v c owner unnamed there = files_alike shard shard store (remove store f) (λ g. by_test g (g == f) refl)
  where
    gone : get (remove store f) f ≡ None
    gone = grind (arith, nat_tests, gets)

    by_test : (g : ℕ) (b : Bool) → (g == f) ≡ b → option_map facts_of (cond (is_counted shard (remove store f) g) (get (remove store f) g) None) ≡ option_map facts_of (cond (is_counted shard store g) (get store g) None)
    by_test g true t = let same : g ≡ f = grind (arith, nat_tests) in rw (same, gone, there, owner, unnamed) refl
    by_test g false t = let differ : g ≢ f = grind (arith, nat_tests) in rw (get-remove_other store f g differ) refl

-- a row names an owned file
pub files-with_file : (shard : Shard) (store : Store) (at : Stamp) (dir : DirId) (name : List ℕ) (f : FileId) (ts : ℕ) (r : DirRec) (v : FileRec) → get store f.0 ≡ Some v → get shard.rows (row_key dir name) ≡ None
    → (tree (with_row shard at dir name (File f) ts r) store).files ≡ insert (tree shard store).files f.0 (facts_of v)
files-with_file shard store at dir name f ts r v there free = same_map nat_cmp_total nat_cmp-IsAntisymmetric _ _ (λ g. get-tree_files (with_row shard at dir name (File f) ts r) store g ∙ by_test g (g == f.0) refl)
  where
    naming : (g : ℕ) → is_named (with_row shard at dir name (File f) ts r) g ≡ ((f.0 == g) || is_named shard g)
    naming g = any-set_row shard.rows (λ e. names_file g e.1.node) (row_key dir name) (record { node = File f; stamp = at }) free

    by_test : (g : ℕ) (b : Bool) → (g == f.0) ≡ b → option_map facts_of (cond (is_counted (with_row shard at dir name (File f) ts r) store g) (get store g) None) ≡ get (insert (tree shard store).files f.0 (facts_of v)) g
    by_test g true t =
        let same : g ≡ f.0 = grind (arith, nat_tests) in
        let named : is_named (with_row shard at dir name (File f) ts r) f.0 ≡ true = naming f.0 ∙ grind (arith, nat_tests) in
        rw (same, there, named, or-true (is_none v.owner)) (sym (get-insert_same (tree shard store).files f.0 (facts_of v)))
    by_test g false t =
        let differ : g ≢ f.0 = grind (arith, nat_tests) in
        let named : is_named (with_row shard at dir name (File f) ts r) g ≡ is_named shard g = naming g ∙ grind (arith, nat_tests) in
        ap (λ b. option_map facts_of (cond (is_settled (get store g) || b) (get store g) None)) named
        ∙ sym (get-tree_files shard store g)
        ∙ sym (get-insert_other (tree shard store).files f.0 g (facts_of v) differ)

-- a row names a directory: the files stay
pub files-with_dir : (shard : Shard) (store : Store) (at : Stamp) (dir : DirId) (name : List ℕ) (child : DirId) (ts : ℕ) (r : DirRec) → get shard.rows (row_key dir name) ≡ None
    → (tree (with_row shard at dir name (Dir child) ts r) store).files ≡ (tree shard store).files
files-with_dir shard store at dir name child ts r free = files_alike shard (with_row shard at dir name (Dir child) ts r) store store (λ g.
    ap (λ b. option_map facts_of (cond (is_settled (get store g) || b) (get store g) None)) (any-set_row shard.rows (λ e. names_file g e.1.node) (row_key dir name) (record { node = Dir child; stamp = at }) free))
