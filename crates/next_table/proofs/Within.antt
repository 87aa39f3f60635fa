-- The rows of one directory, out of the one map of all rows.
use Rattle.std.proofs.Common.{◌≡◌, ℕ, List, [], ◌∷◌, ◌++◌, length, Bool, true, false, cond, not, refl, sym, ◌∙◌, ap, subst, arith}
use Rattle.std.specs.Prelude.{T, ◌&&◌, ◌||◌, ◌==◌, Some, None}
use Rattle.std.proofs.lemmas.Bool.Decides.{nat_tests}
use Rattle.std.specs.List.{list_any}
use Rattle.std.specs.Ordering.{nat_cmp, eq_by_cmp}
use Rattle.std.specs.Cmp.Lexicographic.{slice_cmp}
use Rattle.std.specs.FinMap.{get, entries, entries_sorted, find, is_sorted, get-entries, len, len-entries}
use Rattle.std.specs.FinMap.Entries.{below_all}
use Rattle.next_ids.specs.Maps.{Names, Numbers, within, lies_in}
use Rattle.next_ids.proofs.Entries.{entries-empty, find-above}
use Rattle.next_maps.specs.Nested.{names_of}
use Rattle.next_table.specs.Flat.{keyed, flattened, flat}
use Rattle.next_table.proofs.Walked.{entries-flat}

module _ {X : Type 0} where
  pub within-keyed_same : (d : ℕ) (rs ys : List (List ℕ × X)) → within d (keyed d rs ++ ys) ≡ rs ++ within d ys
  within-keyed_same d [] ys = refl
  within-keyed_same d (r ∷ rs) ys = grind (arith, nat_tests, within-keyed_same d rs ys)

  within-keyed_other : (d e : ℕ) (rs ys : List (List ℕ × X)) → (e == d) ≡ false → within d (keyed e rs ++ ys) ≡ within d ys
  within-keyed_other d e [] ys differ = refl
  within-keyed_other d e (r ∷ rs) ys differ = rw differ (within-keyed_other d e rs ys differ)

  -- a directory that isn't there has none
  within-absent : (d : ℕ) (es : List (ℕ × Names X)) → find nat_cmp d es ≡ None → within d (flattened es) ≡ []
  within-absent d [] none = refl
  within-absent d (e ∷ es) none = by_test (e.0 == d) refl none (within-absent d es)
    where
      by_test : (b : Bool) → (e.0 == d) ≡ b → cond (eq_by_cmp nat_cmp d e.0) (Some e.1) (find nat_cmp d es) ≡ None → (find nat_cmp d es ≡ None → within d (flattened es) ≡ []) → within d (keyed e.0 (entries e.1) ++ flattened es) ≡ []
      by_test true same none rest =
          let tied : eq_by_cmp nat_cmp d e.0 ≡ true = grind (arith, nat_tests) in
          let both = rw tied at none in
          cc
      by_test false same none rest =
          let apart : eq_by_cmp nat_cmp d e.0 ≡ false = grind (arith, nat_tests) in
          within-keyed_other d e.0 (entries e.1) (flattened es) same ∙ rest (rw apart at none)

  within-flattened : (d : ℕ) (es : List (ℕ × Names X)) → T (is_sorted nat_cmp es) → within d (flattened es) ≡ entries (names_of (find nat_cmp d es))
  within-flattened d [] s = sym (entries-empty {X = X} (slice_cmp nat_cmp))
  within-flattened d (e ∷ es) s = by_test (e.0 == d) refl (below_all nat_cmp e.0 es) refl s (within-flattened d es)
    where
      all-of : (xs : List (List ℕ × X)) → xs ++ [] ≡ xs
      all-of [] = refl
      all-of (x ∷ xs) = ap (λ rest. x ∷ rest) (all-of xs)

      by_test : (b : Bool) → (e.0 == d) ≡ b → (a : Bool) → below_all nat_cmp e.0 es ≡ a → T (a && is_sorted nat_cmp es) → (T (is_sorted nat_cmp es) → within d (flattened es) ≡ entries (names_of (find nat_cmp d es)))
          → within d (keyed e.0 (entries e.1) ++ flattened es) ≡ entries (names_of (cond (eq_by_cmp nat_cmp d e.0) (Some e.1) (find nat_cmp d es)))
      by_test b same false below s rest = absurd s
      by_test true same true below s rest =
          let key : e.0 ≡ d = grind (arith, nat_tests) in
          let tied : eq_by_cmp nat_cmp d e.0 ≡ true = grind (arith, nat_tests) in
          let none : find nat_cmp d es ≡ None = subst (λ (k : ℕ). find nat_cmp k es ≡ None) key (find-above nat_cmp e.0 es (subst T (sym below) tt)) in
          rw tied
          (ap (λ (k : ℕ). within d (keyed k (entries e.1) ++ flattened es)) key
          ∙ within-keyed_same d (entries e.1) (flattened es)
          ∙ ap (λ ys. entries e.1 ++ ys) (within-absent d es none)
          ∙ all-of (entries e.1))
      by_test false same true below s rest =
          let apart : eq_by_cmp nat_cmp d e.0 ≡ false = grind (arith, nat_tests) in
          rw apart (within-keyed_other d e.0 (entries e.1) (flattened es) same ∙ rest s)

  -- they are those kept for it, in order
  pub within-flat : (m : Numbers (Names X)) (d : ℕ) → within d (entries (flat m)) ≡ entries (names_of (get m d))
  within-flat m d =
      ap (within d) (entries-flat m) ∙ within-flattened d (entries m) (entries_sorted m)
      ∙ ap (λ o. entries (names_of o)) (sym (get-entries m d))

  -- whether a row of the directory passes a test
  any-within : (p : X → Bool) (d : ℕ) (es : List (List ℕ × X)) → list_any (λ e. lies_in d e.0 && p e.1) es ≡ list_any (λ e. p e.1) (within d es)
  any-within p d [] = refl
  any-within p d (([], x) ∷ es) = any-within p d es
  any-within p d ((k ∷ name, x) ∷ es) = by_test (k == d) (any-within p d es)
    where
      by_test : (b : Bool) → list_any (λ e. lies_in d e.0 && p e.1) es ≡ list_any (λ e. p e.1) (within d es)
          → ((b && p x) || list_any (λ e. lies_in d e.0 && p e.1) es) ≡ list_any (λ e. p e.1) (cond b ((name, x) ∷ within d es) (within d es))
      by_test true rest = ap (λ b. p x || b) rest
      by_test false rest = rest

  pub any-flat : (p : X → Bool) (m : Numbers (Names X)) (d : ℕ) → list_any (λ e. lies_in d e.0 && p e.1) (entries (flat m)) ≡ list_any (λ e. p e.1) (entries (names_of (get m d)))
  any-flat p m d = any-within p d (entries (flat m)) ∙ ap (list_any (λ e. p e.1)) (within-flat m d)

  -- whether the directory has a row
  some-within : (d : ℕ) (es : List (List ℕ × X)) → list_any (λ e. lies_in d e.0) es ≡ not (length (within d es) == 0)
  some-within d [] = refl
  some-within d (([], x) ∷ es) = some-within d es
  some-within d ((k ∷ name, x) ∷ es) = by_test (k == d) (some-within d es)
    where
      by_test : (b : Bool) → list_any (λ e. lies_in d e.0) es ≡ not (length (within d es) == 0)
          → (b || list_any (λ e. lies_in d e.0) es) ≡ not (length (cond b ((name, x) ∷ within d es) (within d es)) == 0)
      by_test true rest = grind (arith, nat_tests)
      by_test false rest = rest

  pub some-flat : (m : Numbers (Names X)) (d : ℕ) → list_any (λ e. lies_in d e.0) (entries (flat m)) ≡ not (len (names_of (get m d)) == 0)
  some-flat m d = some-within d (entries (flat m)) ∙ ap (λ es. not (length es == 0)) (within-flat m d) ∙ ap (λ n. not (n == 0)) (sym (len-entries (names_of (get m d))))
