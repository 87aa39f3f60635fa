-- What the one map of all debts tells of the debts of files and of directories.
use Rattle.std.proofs.Common.{◌≡◌, ◌≢◌, ℕ, List, [], ◌∷◌, Bool, true, false, cond, refl, ◌∙◌, ap, arith}
use Rattle.std.specs.Prelude.{◌==◌, Option, Some, None}
use Rattle.std.proofs.lemmas.Bool.Decides.{nat_tests}
use Rattle.std.specs.Ordering.{nat_cmp}
use Rattle.std.specs.Cmp.Lexicographic.{slice_cmp, nat_list_cmp_total}
use Rattle.std.specs.FinMap.{get, insert, remove, empty, entries, find, gets, get-entries, get-from_entries, from_entries, same_map, nat_cmp-IsAntisymmetric, slice_cmp-IsAntisymmetric}
use Rattle.next_ids.specs.Maps.{Numbers}
use Rattle.next_ids.proofs.Entries.{or_else, find-append, entries-empty}
use Rattle.next_table.specs.Flat.{keyed}
use Rattle.next_table.proofs.Flattened.{find-keyed_same, find-keyed_other, find-keyed_none}
use Rattle.next_contents.specs.Owed.{single, by_node, owed}

module _ {X : Type 0} where
  -- ---- what stands at a key
  find-single : (n : ℕ) (es : List (ℕ × X)) → find (slice_cmp nat_cmp) (n ∷ []) (single es) ≡ find nat_cmp n es
  find-single n [] = refl
  find-single n (e ∷ es) = grind (arith, nat_tests, find-single n es)

  find-single_none : (es : List (ℕ × X)) → find (slice_cmp nat_cmp) [] (single es) ≡ None
  find-single_none [] = refl
  find-single_none (e ∷ es) = find-single_none es

  find-single_longer : (n m : ℕ) (more : List ℕ) (es : List (ℕ × X)) → find (slice_cmp nat_cmp) (n ∷ m ∷ more) (single es) ≡ None
  find-single_longer n m more [] = refl
  find-single_longer n m more (e ∷ es) = grind (arith, nat_tests, find-single_longer n m more es)

  -- what a key beyond the place has
  abbrev pub at_node : (files dirs : Numbers X) → List ℕ → Option X
  at_node files dirs [] = None
  at_node files dirs (kind ∷ []) = None
  at_node files dirs (kind ∷ n ∷ []) = cond (kind == 0) (get files n) (cond (kind == 1) (get dirs n) None)
  at_node files dirs (kind ∷ n ∷ m ∷ more) = None

  abbrev pub at_key : (place : ℕ) → (files dirs : Numbers X) → List ℕ → Option X
  at_key place files dirs [] = None
  at_key place files dirs (p ∷ key) = cond (p == place) (at_node files dirs key) None

  find-keyed : (d k : ℕ) (key : List ℕ) (rs : List (List ℕ × X)) → find (slice_cmp nat_cmp) (k ∷ key) (keyed d rs) ≡ cond (k == d) (find (slice_cmp nat_cmp) key rs) None
  find-keyed d k key rs = by_test (k == d) refl
    where
      by_test : (b : Bool) → (k == d) ≡ b → find (slice_cmp nat_cmp) (k ∷ key) (keyed d rs) ≡ cond b (find (slice_cmp nat_cmp) key rs) None
      by_test true same = let alike : k ≡ d = grind (arith, nat_tests) in rw alike (find-keyed_same d key rs)
      by_test false differ = let apart : k ≢ d = grind (arith, nat_tests) in find-keyed_other k d key rs apart

  module _ (place : ℕ) (files dirs : Numbers X) where
    find-by_node : (key : List ℕ) → find (slice_cmp nat_cmp) key (by_node (entries files) (entries dirs)) ≡ at_node files dirs key
    find-by_node [] =
        find-append (slice_cmp nat_cmp) [] (keyed 0 (single (entries files))) (keyed 1 (single (entries dirs)))
        ∙ rw (find-keyed_none 0 (single (entries files)), find-keyed_none 1 (single (entries dirs))) refl
    find-by_node (kind ∷ key) =
        find-append (slice_cmp nat_cmp) (kind ∷ key) (keyed 0 (single (entries files))) (keyed 1 (single (entries dirs)))
        ∙ rw (find-keyed 0 kind key (single (entries files)), find-keyed 1 kind key (single (entries dirs))) (at_end key)
      where
        nothing : (a b : Bool) → or_else {X = X} (cond a None None) (cond b None None) ≡ None
        nothing true true = refl
        nothing true false = refl
        nothing false true = refl
        nothing false false = refl

        chosen : (a b : Bool) (x y : Option X) → (a ≡ true → b ≡ false) → or_else (cond a x None) (cond b y None) ≡ cond a x (cond b y None)
        chosen true b None y apart = rw (apart refl) refl
        chosen true b (Some z) y apart = refl
        chosen false b x y apart = refl

        at_end : (key : List ℕ) → or_else (cond (kind == 0) (find (slice_cmp nat_cmp) key (single (entries files))) None) (cond (kind == 1) (find (slice_cmp nat_cmp) key (single (entries dirs))) None) ≡ at_node files dirs (kind ∷ key)
        at_end [] = rw (find-single_none (entries files), find-single_none (entries dirs)) (nothing (kind == 0) (kind == 1))
        at_end (n ∷ []) =
            rw (find-single n (entries files), find-single n (entries dirs), ← get-entries files n, ← get-entries dirs n)
            (chosen (kind == 0) (kind == 1) (get files n) (get dirs n) (λ zero. grind (arith, nat_tests)))
        at_end (n ∷ m ∷ more) =
            rw (find-single_longer n m more (entries files), find-single_longer n m more (entries dirs)) (nothing (kind == 0) (kind == 1))

    pub get-owed : (key : List ℕ) → get (owed place files dirs) key ≡ at_key place files dirs key
    get-owed key = get-from_entries nat_list_cmp_total (keyed place (by_node (entries files) (entries dirs))) key ∙ at key
      where
        at : (key : List ℕ) → find (slice_cmp nat_cmp) key (keyed place (by_node (entries files) (entries dirs))) ≡ at_key place files dirs key
        at [] = find-keyed_none place (by_node (entries files) (entries dirs))
        at (p ∷ key) =
            find-keyed place p key (by_node (entries files) (entries dirs)) ∙ ap (λ o. cond (p == place) o None) (find-by_node key)

    -- the debt of a file, and that of a directory
    pub get-file : (n : ℕ) → get (owed place files dirs) (place ∷ 0 ∷ n ∷ []) ≡ get files n
    get-file n = get-owed (place ∷ 0 ∷ n ∷ []) ∙ grind (arith, nat_tests)

    pub get-dir : (n : ℕ) → get (owed place files dirs) (place ∷ 1 ∷ n ∷ []) ≡ get dirs n
    get-dir n = get-owed (place ∷ 1 ∷ n ∷ []) ∙ grind (arith, nat_tests)

  module _ (place : ℕ) (files dirs : Numbers X) where
    -- a debt of a file set or cut is set or cut in the one map
    pub owed-set_file : (n : ℕ) (x : X) → owed place (insert files n x) dirs ≡ insert (owed place files dirs) (place ∷ 0 ∷ n ∷ []) x
    owed-set_file n x = same_map nat_list_cmp_total (slice_cmp-IsAntisymmetric nat_cmp-IsAntisymmetric) _ _ (λ q. get-owed place (insert files n x) dirs q ∙ at q)
      where
        at : (q : List ℕ) → at_key place (insert files n x) dirs q ≡ get (insert (owed place files dirs) (place ∷ 0 ∷ n ∷ []) x) q
        at [] = let old = get-owed place files dirs [] in grind (arith, nat_tests, gets)
        at (k ∷ []) = let old = get-owed place files dirs (k ∷ []) in grind (arith, nat_tests, gets)
        at (k ∷ l ∷ []) = let old = get-owed place files dirs (k ∷ l ∷ []) in grind (arith, nat_tests, gets)
        at (k ∷ l ∷ m ∷ []) = let old = get-owed place files dirs (k ∷ l ∷ m ∷ []) in grind (arith, nat_tests, gets)
        at (k ∷ l ∷ m ∷ o ∷ more) = let old = get-owed place files dirs (k ∷ l ∷ m ∷ o ∷ more) in grind (arith, nat_tests, gets)

    pub owed-cut_file : (n : ℕ) → owed place (remove files n) dirs ≡ remove (owed place files dirs) (place ∷ 0 ∷ n ∷ [])
    owed-cut_file n = same_map nat_list_cmp_total (slice_cmp-IsAntisymmetric nat_cmp-IsAntisymmetric) _ _ (λ q. get-owed place (remove files n) dirs q ∙ at q)
      where
        at : (q : List ℕ) → at_key place (remove files n) dirs q ≡ get (remove (owed place files dirs) (place ∷ 0 ∷ n ∷ [])) q
        at [] = let old = get-owed place files dirs [] in grind (arith, nat_tests, gets)
        at (k ∷ []) = let old = get-owed place files dirs (k ∷ []) in grind (arith, nat_tests, gets)
        at (k ∷ l ∷ []) = let old = get-owed place files dirs (k ∷ l ∷ []) in grind (arith, nat_tests, gets)
        at (k ∷ l ∷ m ∷ []) = let old = get-owed place files dirs (k ∷ l ∷ m ∷ []) in grind (arith, nat_tests, gets)
        at (k ∷ l ∷ m ∷ o ∷ more) = let old = get-owed place files dirs (k ∷ l ∷ m ∷ o ∷ more) in grind (arith, nat_tests, gets)

    -- and so is that of a directory
    pub owed-set_dir : (n : ℕ) (x : X) → owed place files (insert dirs n x) ≡ insert (owed place files dirs) (place ∷ 1 ∷ n ∷ []) x
    owed-set_dir n x = same_map nat_list_cmp_total (slice_cmp-IsAntisymmetric nat_cmp-IsAntisymmetric) _ _ (λ q. get-owed place files (insert dirs n x) q ∙ at q)
      where
        at : (q : List ℕ) → at_key place files (insert dirs n x) q ≡ get (insert (owed place files dirs) (place ∷ 1 ∷ n ∷ []) x) q
        at [] = let old = get-owed place files dirs [] in grind (arith, nat_tests, gets)
        at (k ∷ []) = let old = get-owed place files dirs (k ∷ []) in grind (arith, nat_tests, gets)
        at (k ∷ l ∷ []) = let old = get-owed place files dirs (k ∷ l ∷ []) in grind (arith, nat_tests, gets)
        at (k ∷ l ∷ m ∷ []) = let old = get-owed place files dirs (k ∷ l ∷ m ∷ []) in grind (arith, nat_tests, gets)
        at (k ∷ l ∷ m ∷ o ∷ more) = let old = get-owed place files dirs (k ∷ l ∷ m ∷ o ∷ more) in grind (arith, nat_tests, gets)

    pub owed-cut_dir : (n : ℕ) → owed place files (remove dirs n) ≡ remove (owed place files dirs) (place ∷ 1 ∷ n ∷ [])
    owed-cut_dir n = same_map nat_list_cmp_total (slice_cmp-IsAntisymmetric nat_cmp-IsAntisymmetric) _ _ (λ q. get-owed place files (remove dirs n) q ∙ at q)
      where
        at : (q : List ℕ) → at_key place files (remove dirs n) q ≡ get (remove (owed place files dirs) (place ∷ 1 ∷ n ∷ [])) q
        at [] = let old = get-owed place files dirs [] in grind (arith, nat_tests, gets)
        at (k ∷ []) = let old = get-owed place files dirs (k ∷ []) in grind (arith, nat_tests, gets)
        at (k ∷ l ∷ []) = let old = get-owed place files dirs (k ∷ l ∷ []) in grind (arith, nat_tests, gets)
        at (k ∷ l ∷ m ∷ []) = let old = get-owed place files dirs (k ∷ l ∷ m ∷ []) in grind (arith, nat_tests, gets)
        at (k ∷ l ∷ m ∷ o ∷ more) = let old = get-owed place files dirs (k ∷ l ∷ m ∷ o ∷ more) in grind (arith, nat_tests, gets)

-- nobody owes anything
pub owed-empty : {X : Type 0} (place : ℕ) → owed {X = X} place empty empty ≡ empty
owed-empty {X} place = ap (λ es. from_entries (keyed place (by_node es es))) (entries-empty {X = X} nat_cmp)

pub ruleset owing = (get-file, get-dir, owed-set_file, owed-cut_file, owed-set_dir, owed-cut_dir, owed-empty)
