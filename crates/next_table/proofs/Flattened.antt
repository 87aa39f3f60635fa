-- What the one map of all rows tells of the rows of each directory.
use Rattle.std.proofs.Common.{◌≡◌, ◌≢◌, ℕ, List, [], ◌∷◌, Bool, true, false, cond, refl, sym, ◌∙◌, ap, subst, arith}
use Rattle.std.specs.Prelude.{T, ◌&&◌, ◌==◌, Option, Some, None}
use Rattle.std.proofs.lemmas.Bool.Decides.{nat_tests}
use Rattle.std.specs.Ordering.{nat_cmp, eq_by_cmp}
use Rattle.std.specs.Cmp.Lexicographic.{slice_cmp, nat_list_cmp_total}
use Rattle.std.specs.FinMap.{get, insert, remove, len, empty_of_len, get-empty, entries, entries_sorted, find, is_sorted, gets, get-entries, get-from_entries, get-insert, same_map, nat_cmp-IsAntisymmetric, slice_cmp-IsAntisymmetric}
use Rattle.std.specs.FinMap.Entries.{below_all}
use Rattle.next_ids.specs.Maps.{Names, Numbers}
use Rattle.next_ids.proofs.Entries.{or_else, find-append, find-above}
use Rattle.next_maps.specs.Nested.{names_of, with_name, with_names, without_name}
use Rattle.next_table.specs.Flat.{keyed, flattened, flat, found_in}

module _ {X : Type 0} where
  pub find-keyed_same : (d : ℕ) (n : List ℕ) (rs : List (List ℕ × X)) → find (slice_cmp nat_cmp) (d ∷ n) (keyed d rs) ≡ find (slice_cmp nat_cmp) n rs
  find-keyed_same d n [] = refl
  find-keyed_same d n (r ∷ rs) = grind (arith, nat_tests, find-keyed_same d n rs)

  pub find-keyed_other : (d e : ℕ) (n : List ℕ) (rs : List (List ℕ × X)) → d ≢ e → find (slice_cmp nat_cmp) (d ∷ n) (keyed e rs) ≡ None
  find-keyed_other d e n [] differ = refl
  find-keyed_other d e n (r ∷ rs) differ = grind (arith, nat_tests, find-keyed_other d e n rs differ)

  pub find-keyed_none : (e : ℕ) (rs : List (List ℕ × X)) → find (slice_cmp nat_cmp) [] (keyed e rs) ≡ None
  find-keyed_none e [] = refl
  find-keyed_none e (r ∷ rs) = find-keyed_none e rs

  find-flattened_none : (es : List (ℕ × Names X)) → find (slice_cmp nat_cmp) [] (flattened es) ≡ None
  find-flattened_none [] = refl
  find-flattened_none (e ∷ es) = find-append (slice_cmp nat_cmp) [] (keyed e.0 (entries e.1)) (flattened es) ∙ rw (find-keyed_none e.0 (entries e.1), find-flattened_none es) refl

  pub find-flattened_absent : (d : ℕ) (n : List ℕ) (es : List (ℕ × Names X)) → find nat_cmp d es ≡ None → find (slice_cmp nat_cmp) (d ∷ n) (flattened es) ≡ None
  find-flattened_absent d n [] h = refl
  find-flattened_absent d n (e ∷ es) h = find-append (slice_cmp nat_cmp) (d ∷ n) (keyed e.0 (entries e.1)) (flattened es) ∙ by_test (eq_by_cmp nat_cmp d e.0) refl h (find-flattened_absent d n es)
    where
      by_test : (b : Bool) → eq_by_cmp nat_cmp d e.0 ≡ b → cond b (Some e.1) (find nat_cmp d es) ≡ None → (find nat_cmp d es ≡ None → find (slice_cmp nat_cmp) (d ∷ n) (flattened es) ≡ None)
          → or_else (find (slice_cmp nat_cmp) (d ∷ n) (keyed e.0 (entries e.1))) (find (slice_cmp nat_cmp) (d ∷ n) (flattened es)) ≡ None
      by_test true t h rest = cc
      by_test false t h rest = let differ : d ≢ e.0 = grind (arith, nat_tests) in rw (find-keyed_other d e.0 n (entries e.1) differ, rest h) refl

  find-flattened : (d : ℕ) (n : List ℕ) (es : List (ℕ × Names X)) → T (is_sorted nat_cmp es) → find (slice_cmp nat_cmp) (d ∷ n) (flattened es) ≡ found_in (find nat_cmp d es) n
  find-flattened d n [] s = refl
  find-flattened d n (e ∷ es) s = find-append (slice_cmp nat_cmp) (d ∷ n) (keyed e.0 (entries e.1)) (flattened es) ∙ by_test (eq_by_cmp nat_cmp d e.0) refl (below_all nat_cmp e.0 es) refl s (find-flattened d n es)
    where
      none_after : (o : Option X) → or_else o None ≡ o
      none_after None = refl
      none_after (Some x) = refl

      by_test : (b : Bool) → eq_by_cmp nat_cmp d e.0 ≡ b → (a : Bool) → below_all nat_cmp e.0 es ≡ a → T (a && is_sorted nat_cmp es) → (T (is_sorted nat_cmp es) → find (slice_cmp nat_cmp) (d ∷ n) (flattened es) ≡ found_in (find nat_cmp d es) n)
          → or_else (find (slice_cmp nat_cmp) (d ∷ n) (keyed e.0 (entries e.1))) (find (slice_cmp nat_cmp) (d ∷ n) (flattened es)) ≡ found_in (cond b (Some e.1) (find nat_cmp d es)) n
      by_test b t false below s rest = absurd s
      by_test true t true below s rest =
          let same : d ≡ e.0 = grind (arith, nat_tests) in
          let none : find nat_cmp d es ≡ None = subst (λ (k : ℕ). find nat_cmp k es ≡ None) (sym same) (find-above nat_cmp e.0 es (subst T (sym below) tt)) in
          rw (find-flattened_absent d n es none, same, find-keyed_same e.0 n (entries e.1)) (none_after _ ∙ sym (get-entries e.1 n))
      by_test false t true below s rest = let differ : d ≢ e.0 = grind (arith, nat_tests) in rw (find-keyed_other d e.0 n (entries e.1) differ) (rest s)

  -- what stands at a name of a directory
  pub get-flat : (m : Numbers (Names X)) (d : ℕ) (n : List ℕ) → get (flat m) (d ∷ n) ≡ found_in (get m d) n
  get-flat m d n = get-from_entries nat_list_cmp_total (flattened (entries m)) (d ∷ n) ∙ find-flattened d n (entries m) (entries_sorted m) ∙ ap (λ o. found_in o n) (sym (get-entries m d))

  get-flat_none : (m : Numbers (Names X)) → get (flat m) [] ≡ None
  get-flat_none m = get-from_entries nat_list_cmp_total (flattened (entries m)) [] ∙ find-flattened_none (entries m)

  found-names_of : (o : Option (Names X)) (n : List ℕ) → get (names_of o) n ≡ found_in o n
  found-names_of None n = grind (arith, gets)
  found-names_of (Some names) n = refl

  pub get-names_of : (m : Numbers (Names X)) (d : ℕ) (n : List ℕ) → get (names_of (get m d)) n ≡ get (flat m) (d ∷ n)
  get-names_of m d n = found-names_of (get m d) n ∙ sym (get-flat m d n)

  -- a row set at a name of a directory is set in the one map
  pub flat-with_name : (m : Numbers (Names X)) (d : ℕ) (name : List ℕ) (v : X) → flat (with_name m d name v) ≡ insert (flat m) (d ∷ name) v
  flat-with_name m d name v = same_map nat_list_cmp_total (slice_cmp-IsAntisymmetric nat_cmp-IsAntisymmetric) _ _ at
    where
      here : (n : List ℕ) → get (insert (names_of (get m d)) name v) n ≡ cond (eq_by_cmp (slice_cmp nat_cmp) n name) (Some v) (found_in (get m d) n)
      here n = get-insert nat_list_cmp_total (names_of (get m d)) name v n ∙ ap (λ o. cond (eq_by_cmp (slice_cmp nat_cmp) n name) (Some v) o) (found-names_of (get m d) n)

      by_test : (e : ℕ) (n : List ℕ) (b : Bool) → (e == d) ≡ b → found_in (get (with_name m d name v) e) n ≡ get (insert (flat m) (d ∷ name) v) (e ∷ n)
      by_test e n true t = let same : e ≡ d = grind (arith, nat_tests) in let there : get (with_name m d name v) d ≡ Some (insert (names_of (get m d)) name v) = grind (arith, nat_tests, gets) in
          let old = get-flat m d n in let new = here n in
          rw (same, there) (new ∙ grind (arith, nat_tests, gets))
      by_test e n false t = let differ : e ≢ d = grind (arith, nat_tests) in let there : get (with_name m d name v) e ≡ get m e = grind (arith, nat_tests, gets) in
          let old = get-flat m e n in
          rw there (sym old ∙ grind (arith, nat_tests, gets))

      at : (q : List ℕ) → get (flat (with_name m d name v)) q ≡ get (insert (flat m) (d ∷ name) v) q
      at [] = let a = get-flat_none (with_name m d name v) in let b = get-flat_none m in a ∙ grind (arith, gets)
      at (e ∷ n) = get-flat (with_name m d name v) e n ∙ by_test e n (e == d) refl

  get-with_names_here : (m : Numbers (Names X)) (d : ℕ) (names : Names X) (n : List ℕ) → found_in (get (with_names m d names) d) n ≡ get names n
  get-with_names_here m d names n = by_test (len names == 0) refl
    where
      by_test : (b : Bool) → (len names == 0) ≡ b → found_in (get (cond b (remove m d) (insert m d names)) d) n ≡ get names n
      by_test true t =
          let none : len names ≡ 0 = grind (arith, nat_tests) in
          let gone : get (remove m d) d ≡ None = grind (arith, nat_tests, gets) in
          rw (gone, empty_of_len names none) (sym (get-empty (slice_cmp nat_cmp) n))
      by_test false t = let there : get (insert m d names) d ≡ Some names = grind (arith, nat_tests, gets) in rw there refl

  get-with_names_other : (m : Numbers (Names X)) (d e : ℕ) (names : Names X) → e ≢ d → get (with_names m d names) e ≡ get m e
  get-with_names_other m d e names differ = by_test (len names == 0)
    where
      by_test : (b : Bool) → get (cond b (remove m d) (insert m d names)) e ≡ get m e
      by_test true = grind (arith, nat_tests, gets)
      by_test false = grind (arith, nat_tests, gets)

  -- a row cut from a directory is cut from the one map
  pub flat-without_name : (m : Numbers (Names X)) (d : ℕ) (name : List ℕ) → flat (without_name m d name) ≡ remove (flat m) (d ∷ name)
  flat-without_name m d name = same_map nat_list_cmp_total (slice_cmp-IsAntisymmetric nat_cmp-IsAntisymmetric) _ _ at
    where
      by_test : (e : ℕ) (n : List ℕ) (b : Bool) → (e == d) ≡ b → found_in (get (without_name m d name) e) n ≡ get (remove (flat m) (d ∷ name)) (e ∷ n)
      by_test e n true t =
          let same : e ≡ d = grind (arith, nat_tests) in
          let old = get-names_of m d n in
          rw same (get-with_names_here m d (remove (names_of (get m d)) name) n ∙ grind (arith, nat_tests, gets))
      by_test e n false t =
          let differ : e ≢ d = grind (arith, nat_tests) in
          let old = get-flat m e n in
          ap (λ o. found_in o n) (get-with_names_other m d e (remove (names_of (get m d)) name) differ) ∙ sym old ∙ grind (arith, nat_tests, gets)

      at : (q : List ℕ) → get (flat (without_name m d name)) q ≡ get (remove (flat m) (d ∷ name)) q
      at [] = let a = get-flat_none (without_name m d name) in let b = get-flat_none m in a ∙ grind (arith, gets)
      at (e ∷ n) = get-flat (without_name m d name) e n ∙ by_test e n (e == d) refl

pub ruleset flattening = (get-flat, get-names_of, flat-with_name, flat-without_name)
