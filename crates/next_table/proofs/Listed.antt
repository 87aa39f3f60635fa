-- The names of a directory, and whether any row passes a test, by the one map and directory by directory.
use Rattle.std.proofs.Common.{◌≡◌, ℕ, List, [], ◌∷◌, ◌++◌, map, Bool, true, false, cond, refl, sym, ◌∙◌, ap, subst}
use Rattle.std.specs.Prelude.{T, ◌||◌, ◌&&◌, Option, Some, None}
use Rattle.std.specs.List.{list_any}
use Rattle.std.specs.Option.{option_map}
use Rattle.std.specs.declared.cmp.Ordering.{Ordering}
use Rattle.std.specs.Ordering.{nat_cmp, is_lt}
use Rattle.std.specs.Cmp.Lexicographic.{slice_cmp, nat_list_cmp_total}
use Rattle.std.specs.FinMap.{get, empty, entries, entries_sorted, find, is_sorted, from_entries, from_sorted, entries-from_sorted, get-from_sorted, get-entries, get-from_entries, get-empty, same_map, nat_cmp-IsAntisymmetric, slice_cmp-IsAntisymmetric}
use Rattle.std.specs.FinMap.Entries.{below_all}
use Rattle.next_ids.specs.Maps.{Names, Numbers, within}
use Rattle.next_ids.proofs.MapLemmas.{find-within}
use Rattle.next_ids.proofs.Entries.{or_else, find-append, find-above, Distinct, list_any-from_entries, entries-empty}
use Rattle.next_maps.specs.Nested.{names_of}
use Rattle.next_table.specs.Flat.{keyed, flattened, flat, found_in}
use Rattle.next_table.proofs.Flattened.{find-keyed_same, find-flattened_absent, get-flat}

-- ---- values changed one by one
module _ {K X Y : Type 0} (R : K → K → Ordering) (f : X → Y) where
  abbrev pub changed : List (K × X) → List (K × Y)
  changed es = map (λ e. (e.0, f e.1)) es

  below-changed : (k : K) (es : List (K × X)) → T (below_all R k es) → T (below_all R k (changed es))
  below-changed k [] h = tt
  below-changed k (e ∷ es) h = by_test (is_lt (R k e.0)) h (below-changed k es)
    where
      by_test : (b : Bool) → T (b && below_all R k es) → (T (below_all R k es) → T (below_all R k (changed es))) → T (b && below_all R k (changed es))
      by_test true h rest = rest h
      by_test false h rest = absurd h

  pub is_sorted-changed : (es : List (K × X)) → T (is_sorted R es) → T (is_sorted R (changed es))
  is_sorted-changed [] h = tt
  is_sorted-changed (e ∷ es) h = by_test (below_all R e.0 es) refl h (below-changed e.0 es) (is_sorted-changed es)
    where
      both : (a b : Bool) → T a → T b → T (a && b)
      both true b p q = q
      both false b p q = absurd p

      by_test : (b : Bool) → below_all R e.0 es ≡ b → T (b && is_sorted R es) → (T (below_all R e.0 es) → T (below_all R e.0 (changed es))) → (T (is_sorted R es) → T (is_sorted R (changed es))) → T (below_all R e.0 (changed es) && is_sorted R (changed es))
      by_test true is h below rest = both _ _ (below (subst T (sym is) tt)) (rest h)
      by_test false is h below rest = absurd h

  find-changed : (q : K) (es : List (K × X)) → find R q (changed es) ≡ option_map f (find R q es)
  find-changed q [] = refl
  find-changed q (e ∷ es) = by_test _ (find-changed q es)
    where
      by_test : (b : Bool) → find R q (changed es) ≡ option_map f (find R q es) → cond b (Some (f e.1)) (find R q (changed es)) ≡ option_map f (cond b (Some e.1) (find R q es))
      by_test true rest = refl
      by_test false rest = rest

-- the names of a directory are those kept for it
pub entries-names : {X Y : Type 0} (f : X → Y) (m : Numbers (Names X)) (d : ℕ) →
    entries (from_entries {R = slice_cmp nat_cmp} (map (λ e. (e.0, f e.1)) (within d (entries (flat m))))) ≡ map (λ e. (e.0, f e.1)) (entries (names_of (get m d)))
entries-names {X} {Y} f m d = ap entries alike ∙ entries-from_sorted (slice_cmp nat_cmp) kept sorted
  where
    kept : List (List ℕ × Y)
    kept = map (λ e. (e.0, f e.1)) (entries (names_of (get m d)))

    sorted : T (is_sorted (slice_cmp nat_cmp) (map (λ e. (e.0, f e.1)) (entries (names_of (get m d)))))
    sorted = is_sorted-changed (slice_cmp nat_cmp) f (entries (names_of (get m d))) (entries_sorted (names_of (get m d)))

    found : (o : Option (Names X)) (q : List ℕ) → found_in o q ≡ get (names_of o) q
    found None q = sym (get-empty (slice_cmp nat_cmp) q)
    found (Some names) q = refl

    alike : from_entries {R = slice_cmp nat_cmp} (map (λ e. (e.0, f e.1)) (within d (entries (flat m)))) ≡ from_sorted (map (λ e. (e.0, f e.1)) (entries (names_of (get m d))))
    alike = same_map nat_list_cmp_total (slice_cmp-IsAntisymmetric nat_cmp-IsAntisymmetric) _ _ (λ q.
        get-from_entries nat_list_cmp_total (map (λ e. (e.0, f e.1)) (within d (entries (flat m)))) q
        ∙ find-within f d q (entries (flat m))
        ∙ ap (option_map f) (sym (get-entries (flat m) (d ∷ q)) ∙ get-flat m d q ∙ found (get m d) q ∙ get-entries (names_of (get m d)) q)
        ∙ sym (find-changed (slice_cmp nat_cmp) f q (entries (names_of (get m d))))
        ∙ sym (get-from_sorted (slice_cmp nat_cmp) (map (λ e. (e.0, f e.1)) (entries (names_of (get m d)))) q sorted))

-- ---- no key stands twice
any_or : (a b c : Bool) → ((a || b) || c) ≡ (a || (b || c))
any_or true b c = refl
any_or false b c = refl

module _ {X : Type 0} where
  Distinct-keyed : (d : ℕ) (rs : List (List ℕ × X)) (ys : List (List ℕ × X)) → T (is_sorted (slice_cmp nat_cmp) rs) → Distinct (slice_cmp nat_cmp) ys → ((n : List ℕ) → find (slice_cmp nat_cmp) (d ∷ n) ys ≡ None) → Distinct (slice_cmp nat_cmp) (keyed d rs ++ ys)
  Distinct-keyed d [] ys s h none = h
  Distinct-keyed d (r ∷ rs) ys s h none = by_test (below_all (slice_cmp nat_cmp) r.0 rs) refl s (λ t. Distinct-keyed d rs ys t h none)
    where
      by_test : (b : Bool) → below_all (slice_cmp nat_cmp) r.0 rs ≡ b → T (b && is_sorted (slice_cmp nat_cmp) rs) → (T (is_sorted (slice_cmp nat_cmp) rs) → Distinct (slice_cmp nat_cmp) (keyed d rs ++ ys))
          → (find (slice_cmp nat_cmp) (d ∷ r.0) (keyed d rs ++ ys) ≡ None) × Distinct (slice_cmp nat_cmp) (keyed d rs ++ ys)
      by_test true is s rest = (
        find-append (slice_cmp nat_cmp) (d ∷ r.0) (keyed d rs) ys
            ∙ ap (λ o. or_else o (find (slice_cmp nat_cmp) (d ∷ r.0) ys)) (find-keyed_same d r.0 rs ∙ find-above (slice_cmp nat_cmp) r.0 rs (subst T (sym is) tt))
            ∙ none r.0,
        rest s,
      )
      by_test false is s rest = absurd s

  Distinct-flattened : (es : List (ℕ × Names X)) → T (is_sorted nat_cmp es) → Distinct (slice_cmp nat_cmp) (flattened es)
  Distinct-flattened [] s = tt
  Distinct-flattened (e ∷ es) s = by_test (below_all nat_cmp e.0 es) refl s (Distinct-flattened es)
    where
      by_test : (b : Bool) → below_all nat_cmp e.0 es ≡ b → T (b && is_sorted nat_cmp es) → (T (is_sorted nat_cmp es) → Distinct (slice_cmp nat_cmp) (flattened es)) → Distinct (slice_cmp nat_cmp) (keyed e.0 (entries e.1) ++ flattened es)
      by_test true is s rest = Distinct-keyed e.0 (entries e.1) (flattened es) (entries_sorted e.1) (rest s) (λ n. find-flattened_absent e.0 n es (find-above nat_cmp e.0 es (subst T (sym is) tt)))
      by_test false is s rest = absurd s

  list_any-keyed : (p : X → Bool) (d : ℕ) (rs ys : List (List ℕ × X)) → list_any (λ e. p e.1) (keyed d rs ++ ys) ≡ (list_any (λ e. p e.1) rs || list_any (λ e. p e.1) ys)
  list_any-keyed p d [] ys = refl
  list_any-keyed p d (r ∷ rs) ys = ap (λ b. p r.1 || b) (list_any-keyed p d rs ys) ∙ sym (any_or (p r.1) _ _)

  list_any-flattened : (p : X → Bool) (es : List (ℕ × Names X)) → list_any (λ e. p e.1) (flattened es) ≡ list_any (λ e. list_any (λ r. p r.1) (entries e.1)) es
  list_any-flattened p [] = refl
  list_any-flattened p (e ∷ es) = list_any-keyed p e.0 (entries e.1) (flattened es) ∙ ap (λ b. list_any (λ r. p r.1) (entries e.1) || b) (list_any-flattened p es)

  -- a row passes the test where one of some directory does
  pub list_any-flat : (p : X → Bool) (m : Numbers (Names X)) → list_any (λ e. p e.1) (entries (flat m)) ≡ list_any (λ e. list_any (λ r. p r.1) (entries e.1)) (entries m)
  list_any-flat p m = list_any-from_entries (slice_cmp nat_cmp) nat_list_cmp_total (λ e. p e.1) (flattened (entries m)) (Distinct-flattened (entries m) (entries_sorted m)) ∙ list_any-flattened p (entries m)

-- no directory has a row
pub flat-empty : {X : Type 0} → flat {X = X} empty ≡ empty
flat-empty {X} = ap from_entries (ap flattened (entries-empty {X = Names X} nat_cmp))
