-- A walk through the one map of all debts: those of files, and then those of directories.
use Rattle.std.proofs.Common.{◌≡◌, ℕ, List, [], ◌∷◌, ◌++◌, Bool, true, false, refl, sym, ◌∙◌, ap, subst, arith}
use Rattle.std.specs.Prelude.{T, ◌&&◌, Option, Some, None}
use Rattle.std.proofs.lemmas.Bool.Decides.{nat_tests}
use Rattle.std.proofs.lemmas.List.{append-nil}
use Rattle.std.specs.Option.{option_map}
use Rattle.std.specs.Ordering.{nat_cmp}
use Rattle.std.specs.Cmp.Lexicographic.{slice_cmp}
use Rattle.std.specs.FinMap.{entries, entries_sorted, is_sorted}
use Rattle.std.specs.FinMap.Entries.{below_all}
use Rattle.next_ids.specs.declared.ids.Node.{Node}
use Rattle.next_ids.specs.declared.ids.PlaceNo.{PlaceNo}
use Rattle.next_ids.specs.Maps.{Numbers, within}
use Rattle.next_steps.specs.declared.contents.Debt.{Debt}
use Rattle.next_rules.specs.Contents.{node_key, debt_key}
use Rattle.next_maps.specs.Walks.{entries_after, first_of}
use Rattle.next_maps.proofs.Walking.{after-none}
use Rattle.next_table.specs.Flat.{keyed}
use Rattle.next_table.proofs.Walked.{both, below-keyed_less, sorted-keyed, entries-rising, after-append, after-keyed_same, after-keyed_less, after-keyed_greater}
use Rattle.std.specs.Prelude.{flat_map}
use Rattle.std.proofs.lemmas.Grind.{flat_map-append}
use Rattle.next_table.proofs.Within.{within-keyed_same}
use Rattle.next_contents.specs.Owed.{single, by_node, owed}

module _ {X : Type 0} where
  -- ---- in order
  below-single : (n : ℕ) (es : List (ℕ × X)) → T (below_all nat_cmp n es) → T (below_all (slice_cmp nat_cmp) (n ∷ []) (single es))
  below-single n [] h = tt
  below-single n (e ∷ es) h = grind (arith, nat_tests, below-single n es)

  sorted-single : (es : List (ℕ × X)) → T (is_sorted nat_cmp es) → T (is_sorted (slice_cmp nat_cmp) (single es))
  sorted-single [] h = tt
  sorted-single (e ∷ es) h = by_test (below_all nat_cmp e.0 es) refl h (below-single e.0 es) (sorted-single es)
    where
      by_test : (b : Bool) → below_all nat_cmp e.0 es ≡ b → T (b && is_sorted nat_cmp es) → (T (below_all nat_cmp e.0 es) → T (below_all (slice_cmp nat_cmp) (e.0 ∷ []) (single es)))
          → (T (is_sorted nat_cmp es) → T (is_sorted (slice_cmp nat_cmp) (single es))) → T (below_all (slice_cmp nat_cmp) (e.0 ∷ []) (single es) && is_sorted (slice_cmp nat_cmp) (single es))
      by_test true is h below rest = both _ _ (below (subst T (sym is) tt)) (rest h)
      by_test false is h below rest = absurd h

  -- alone
  sorted-alone : (d : ℕ) (rs : List (List ℕ × X)) → T (is_sorted (slice_cmp nat_cmp) rs) → T (is_sorted (slice_cmp nat_cmp) (keyed d rs))
  sorted-alone d rs h = subst (λ es. T (is_sorted (slice_cmp nat_cmp) es)) (append-nil (keyed d rs)) (sorted-keyed d rs [] h tt (λ n. tt))

  sorted-by_node : (files dirs : Numbers X) → T (is_sorted (slice_cmp nat_cmp) (by_node (entries files) (entries dirs)))
  sorted-by_node files dirs =
      sorted-keyed 0 (single (entries files)) (keyed 1 (single (entries dirs))) (sorted-single (entries files) (entries_sorted files))
      (sorted-alone 1 (single (entries dirs)) (sorted-single (entries dirs) (entries_sorted dirs)))
      (λ n. below-keyed_less 0 1 n (single (entries dirs)) refl)

  module _ (place : ℕ) (files dirs : Numbers X) where
    pub entries-owed : entries (owed place files dirs) ≡ keyed place (by_node (entries files) (entries dirs))
    entries-owed = entries-rising (keyed place (by_node (entries files) (entries dirs))) (sorted-alone place (by_node (entries files) (entries dirs)) (sorted-by_node files dirs))

-- ---- what is left of a walk
-- the first of those that a kind and a number stand for
pub first-single : {X : Type 0} (k : ℕ) (es : List (ℕ × X)) → first_of (keyed k (single es)) ≡ option_map (λ e. (k ∷ e.0 ∷ [], e.1)) (first_of es)
first-single k [] = refl
first-single k (e ∷ es) = refl

pub first-place : {X : Type 0} (place : ℕ) (es : List (List ℕ × X)) → first_of (keyed place es) ≡ option_map (λ e. (place ∷ e.0, e.1)) (first_of es)
first-place place [] = refl
first-place place (e ∷ es) = refl

after-single : {X : Type 0} (n : ℕ) (es : List (ℕ × X)) → entries_after (slice_cmp nat_cmp) (Some (n ∷ [])) (single es) ≡ single (entries_after nat_cmp (Some n) es)
after-single n [] = refl
after-single n (e ∷ es) = grind (arith, nat_tests, after-single n es)

module _ {X : Type 0} (place : ℕ) (files dirs : Numbers X) where
  -- before the first debt all are left
  pub after-start : entries_after (slice_cmp nat_cmp) None (entries (owed place files dirs)) ≡ keyed place (by_node (entries files) (entries dirs))
  after-start = after-none (slice_cmp nat_cmp) (entries (owed place files dirs)) ∙ entries-owed place files dirs

  -- after a file the files above it and all directories
  pub after-file : (n : ℕ) → entries_after (slice_cmp nat_cmp) (Some (place ∷ 0 ∷ n ∷ [])) (entries (owed place files dirs)) ≡ keyed place (by_node (entries_after nat_cmp (Some n) (entries files)) (entries dirs))
  after-file n =
      ap (entries_after (slice_cmp nat_cmp) (Some (place ∷ 0 ∷ n ∷ []))) (entries-owed place files dirs)
      ∙ after-keyed_same place (0 ∷ n ∷ []) (by_node (entries files) (entries dirs))
      ∙ ap (keyed place) (after-append (0 ∷ n ∷ []) (keyed 0 (single (entries files))) (keyed 1 (single (entries dirs)))
      ∙ rw (after-keyed_same 0 (n ∷ []) (single (entries files)), after-single n (entries files), after-keyed_less 0 1 (n ∷ []) (single (entries dirs)) refl) refl)

  -- after a directory the directories above it
  pub after-dir : (n : ℕ) → entries_after (slice_cmp nat_cmp) (Some (place ∷ 1 ∷ n ∷ [])) (entries (owed place files dirs)) ≡ keyed place (keyed 1 (single (entries_after nat_cmp (Some n) (entries dirs))))
  after-dir n =
      ap (entries_after (slice_cmp nat_cmp) (Some (place ∷ 1 ∷ n ∷ []))) (entries-owed place files dirs)
      ∙ after-keyed_same place (1 ∷ n ∷ []) (by_node (entries files) (entries dirs))
      ∙ ap (keyed place) (after-append (1 ∷ n ∷ []) (keyed 0 (single (entries files))) (keyed 1 (single (entries dirs)))
      ∙ rw (after-keyed_greater 1 0 (n ∷ []) (single (entries files)) refl, after-keyed_same 1 (n ∷ []) (single (entries dirs)), after-single n (entries dirs)) refl)

-- where no file is left, the directories come
pub files-done : {X : Type 0} (files dirs : List (ℕ × X)) → None ≡ first_of files → by_node files dirs ≡ keyed 1 (single dirs)
files-done [] dirs none = refl
files-done (e ∷ es) dirs none = cc

-- the first debt under its whole key
pub shown-whole : (place : PlaceNo) (r : Option (Node × Debt)) (es : List (List ℕ × Debt)) → option_map (λ e. (node_key e.0, e.1)) r ≡ first_of es → option_map (λ e. (debt_key place e.0, e.1)) r ≡ first_of (keyed place.0 es)
shown-whole place None es shown = ap (option_map (λ e. (place.0 ∷ e.0, e.1))) shown ∙ sym (first-place place.0 es)
shown-whole place (Some e) es shown = ap (option_map (λ e. (place.0 ∷ e.0, e.1))) shown ∙ sym (first-place place.0 es)

-- ---- the debts of the place, one after the other
flat_map-single : {X A : Type 0} (g : List ℕ × X → List A) (k : ℕ) (es : List (ℕ × X)) → flat_map g (keyed k (single es)) ≡ flat_map (λ e. g (k ∷ e.0 ∷ [], e.1)) es
flat_map-single g k [] = refl
flat_map-single g k (e ∷ es) = ap (λ rest. g (k ∷ e.0 ∷ [], e.1) ++ rest) (flat_map-single g k es)

module _ {X A : Type 0} (g : List ℕ × X → List A) (place : ℕ) (files dirs : Numbers X) where
  within-owed : within place (entries (owed place files dirs)) ≡ by_node (entries files) (entries dirs)
  within-owed =
      ap (within place) (entries-owed place files dirs ∙ sym (append-nil _))
      ∙ within-keyed_same place (by_node (entries files) (entries dirs)) []
      ∙ append-nil (by_node (entries files) (entries dirs))

  pub flat_map-owed : flat_map g (within place (entries (owed place files dirs))) ≡ flat_map (λ e. g (0 ∷ e.0 ∷ [], e.1)) (entries files) ++ flat_map (λ e. g (1 ∷ e.0 ∷ [], e.1)) (entries dirs)
  flat_map-owed =
      ap (flat_map g) within-owed
      ∙ flat_map-append g (keyed 0 (single (entries files))) (keyed 1 (single (entries dirs)))
      ∙ rw (flat_map-single g 0 (entries files), flat_map-single g 1 (entries dirs)) refl
