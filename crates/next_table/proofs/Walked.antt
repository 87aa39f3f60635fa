-- A walk through the one map of all rows, directory by directory.
use Rattle.std.proofs.Common.{◌≡◌, ◌<◌, ℕ, length, List, [], ◌∷◌, ◌++◌, Bool, true, false, cond, refl, sym, ◌∙◌, ap, subst, arith}
use Rattle.std.specs.Prelude.{T, ◌&&◌, Option, Some, None}
use Rattle.std.proofs.lemmas.Bool.Decides.{nat_tests}
use Rattle.std.specs.declared.cmp.Ordering.{Ordering}
use Rattle.std.specs.declared.cmp.Ordering.TheVariants.{Less, Equal, Greater}
use Rattle.std.specs.Option.{option_map}
use Rattle.std.specs.Ordering.{nat_cmp, is_eq, is_lt}
use Rattle.std.specs.Cmp.{nat_cmp_total}
use Rattle.std.specs.Cmp.Lexicographic.{slice_cmp, nat_list_cmp_total}
use Rattle.std.specs.FinMap.{get, entries, entries_sorted, get-entries, find, is_sorted, from_entries, from_sorted, entries-from_sorted, get-from_sorted, get-from_entries, same_map, nat_cmp-IsAntisymmetric, slice_cmp-IsAntisymmetric}
use Rattle.std.specs.FinMap.Entries.{below_all}
use Rattle.next_ids.specs.Maps.{Names, Numbers}
use Rattle.next_maps.specs.Nested.{names_of}
use Rattle.next_maps.specs.Walks.{entries_after, first_of}
use Rattle.next_table.specs.Flat.{keyed, flattened, flat}
use Rattle.next_maps.proofs.Walking.{after-next, after-none}
use Rattle.next_ids.proofs.Entries.{or_else, find-above, entries-empty}

pub both : (a b : Bool) → T a → T b → T (a && b)
both true b p q = q
both false b p q = absurd p

left_of : (a b : Bool) → T (a && b) → T a
left_of true b h = tt
left_of false b h = absurd h

right_of : (a b : Bool) → T (a && b) → T b
right_of true b h = h
right_of false b h = absurd h

-- ---- the rows of all directories rise
module _ {X : Type 0} where
  pub below-append : (k : List ℕ) (xs ys : List (List ℕ × X)) → T (below_all (slice_cmp nat_cmp) k xs) → T (below_all (slice_cmp nat_cmp) k ys) → T (below_all (slice_cmp nat_cmp) k (xs ++ ys))
  below-append k [] ys p q = q
  below-append k (x ∷ xs) ys p q = both _ _ (left_of _ _ p) (below-append k xs ys (right_of _ _ p) q)

  pub below-keyed_same : (d : ℕ) (n : List ℕ) (rs : List (List ℕ × X)) → T (below_all (slice_cmp nat_cmp) n rs) → T (below_all (slice_cmp nat_cmp) (d ∷ n) (keyed d rs))
  below-keyed_same d n [] h = tt
  below-keyed_same d n (r ∷ rs) h = grind (arith, nat_tests, below-keyed_same d n rs)

  pub below-keyed_less : (d e : ℕ) (n : List ℕ) (rs : List (List ℕ × X)) → nat_cmp d e ≡ Less → T (below_all (slice_cmp nat_cmp) (d ∷ n) (keyed e rs))
  below-keyed_less d e n [] h = tt
  below-keyed_less d e n (r ∷ rs) h = rw h (below-keyed_less d e n rs h)

  below-flattened : (d : ℕ) (n : List ℕ) (es : List (ℕ × Names X)) → T (below_all nat_cmp d es) → T (below_all (slice_cmp nat_cmp) (d ∷ n) (flattened es))
  below-flattened d n [] h = tt
  below-flattened d n (e ∷ es) h =
      below-append (d ∷ n) (keyed e.0 (entries e.1)) (flattened es) (below-keyed_less d e.0 n (entries e.1) (less (nat_cmp d e.0) (left_of _ _ h))) (below-flattened d n es (right_of _ _ h))
    where
      less : (r : Ordering) → T (is_lt r) → r ≡ Less
      less Less h = refl
      less Equal h = absurd h
      less Greater h = absurd h

  pub sorted-keyed : (d : ℕ) (rs : List (List ℕ × X)) (ys : List (List ℕ × X)) → T (is_sorted (slice_cmp nat_cmp) rs) → T (is_sorted (slice_cmp nat_cmp) ys) → ((n : List ℕ) → T (below_all (slice_cmp nat_cmp) (d ∷ n) ys)) → T (is_sorted (slice_cmp nat_cmp) (keyed d rs ++ ys))
  sorted-keyed d [] ys s t above = t
  sorted-keyed d (r ∷ rs) ys s t above =
      both _ _ (below-append (d ∷ r.0) (keyed d rs) ys (below-keyed_same d r.0 rs (left_of _ _ s)) (above r.0)) (sorted-keyed d rs ys (right_of _ _ s) t above)

  sorted-flattened : (es : List (ℕ × Names X)) → T (is_sorted nat_cmp es) → T (is_sorted (slice_cmp nat_cmp) (flattened es))
  sorted-flattened [] s = tt
  sorted-flattened (e ∷ es) s =
      sorted-keyed e.0 (entries e.1) (flattened es) (entries_sorted e.1) (sorted-flattened es (right_of _ _ s)) (λ n. below-flattened e.0 n es (left_of _ _ s))

  -- rising entries make a map of these entries
  pub entries-rising : (es : List (List ℕ × X)) → T (is_sorted (slice_cmp nat_cmp) es) → entries (from_entries {R = slice_cmp nat_cmp} es) ≡ es
  entries-rising es rising =
      ap entries (same_map nat_list_cmp_total (slice_cmp-IsAntisymmetric nat_cmp-IsAntisymmetric) (from_entries es) (from_sorted es) (λ q. get-from_entries nat_list_cmp_total es q ∙ sym (get-from_sorted (slice_cmp nat_cmp) es q rising)))
      ∙ entries-from_sorted (slice_cmp nat_cmp) es rising

  -- the entries of the one map are those of each directory, one after the other
  pub entries-flat : (m : Numbers (Names X)) → entries (flat m) ≡ flattened (entries m)
  entries-flat m = entries-rising (flattened (entries m)) (sorted-flattened (entries m) (entries_sorted m))

-- ---- what is left of a walk
module _ {X : Type 0} where
  pub after-append : (at : List ℕ) (xs ys : List (List ℕ × X)) → entries_after (slice_cmp nat_cmp) (Some at) (xs ++ ys) ≡ entries_after (slice_cmp nat_cmp) (Some at) xs ++ entries_after (slice_cmp nat_cmp) (Some at) ys
  after-append at [] ys = refl
  after-append at (x ∷ xs) ys = grind (arith, after-append at xs ys)

  pub after-keyed_same : (d : ℕ) (n : List ℕ) (rs : List (List ℕ × X)) → entries_after (slice_cmp nat_cmp) (Some (d ∷ n)) (keyed d rs) ≡ keyed d (entries_after (slice_cmp nat_cmp) (Some n) rs)
  after-keyed_same d n [] = refl
  after-keyed_same d n (r ∷ rs) = grind (arith, nat_tests, after-keyed_same d n rs)

  pub after-keyed_less : (d e : ℕ) (n : List ℕ) (rs : List (List ℕ × X)) → nat_cmp d e ≡ Less → entries_after (slice_cmp nat_cmp) (Some (d ∷ n)) (keyed e rs) ≡ keyed e rs
  after-keyed_less d e n [] h = refl
  after-keyed_less d e n (r ∷ rs) h = rw h (ap (λ rest. (e ∷ r.0, r.1) ∷ rest) (after-keyed_less d e n rs h))

  pub after-keyed_greater : (d e : ℕ) (n : List ℕ) (rs : List (List ℕ × X)) → nat_cmp d e ≡ Greater → entries_after (slice_cmp nat_cmp) (Some (d ∷ n)) (keyed e rs) ≡ []
  after-keyed_greater d e n [] h = refl
  after-keyed_greater d e n (r ∷ rs) h = rw h (after-keyed_greater d e n rs h)

  -- the names of the directory are not found among greater ones
  find-less : (d k : ℕ) (es : List (ℕ × Names X)) → nat_cmp d k ≡ Less → T (below_all nat_cmp k es) → find nat_cmp d es ≡ None
  find-less d k [] h below = refl
  find-less d k (e ∷ es) h below = grind (arith, nat_tests, find-less d k es h)

  -- where the directory has no names, none is left of it
  none-left : (d : ℕ) (n : List ℕ) (o : Option (Names X)) → o ≡ None → keyed d (entries_after (slice_cmp nat_cmp) (Some n) (entries (names_of o))) ≡ []
  none-left d n o none = rw none (ap (λ rs. keyed d (entries_after (slice_cmp nat_cmp) (Some n) rs)) (entries-empty {X = X} (slice_cmp nat_cmp)))

  -- what is left of the directory, and then the directories above
  pub after-flattened : (d : ℕ) (n : List ℕ) (es : List (ℕ × Names X)) → T (is_sorted nat_cmp es) →
      entries_after (slice_cmp nat_cmp) (Some (d ∷ n)) (flattened es) ≡ keyed d (entries_after (slice_cmp nat_cmp) (Some n) (entries (names_of (find nat_cmp d es)))) ++ flattened (entries_after nat_cmp (Some d) es)
  after-flattened d n [] s = sym (ap (λ rs. rs ++ []) (none-left d n None refl))
  after-flattened d n (e ∷ es) s =
      after-append (d ∷ n) (keyed e.0 (entries e.1)) (flattened es) ∙ by_order (nat_cmp d e.0) refl (after-flattened d n es (right_of _ _ s))
    where
      by_order : (r : Ordering) → nat_cmp d e.0 ≡ r
          → entries_after (slice_cmp nat_cmp) (Some (d ∷ n)) (flattened es) ≡ keyed d (entries_after (slice_cmp nat_cmp) (Some n) (entries (names_of (find nat_cmp d es)))) ++ flattened (entries_after nat_cmp (Some d) es)
          → entries_after (slice_cmp nat_cmp) (Some (d ∷ n)) (keyed e.0 (entries e.1)) ++ entries_after (slice_cmp nat_cmp) (Some (d ∷ n)) (flattened es)
          ≡ keyed d (entries_after (slice_cmp nat_cmp) (Some n) (entries (names_of (cond (is_eq r) (Some e.1) (find nat_cmp d es))))) ++ flattened (cond (is_lt r) (e ∷ entries_after nat_cmp (Some d) es) (entries_after nat_cmp (Some d) es))
      by_order Less is again =
          let nothing = none-left d n (find nat_cmp d es) (find-less d e.0 es is (left_of _ _ s)) in
          rw (after-keyed_less d e.0 n (entries e.1) is, again, nothing) refl
      by_order Equal is again =
          let same : d ≡ e.0 = grind (arith, nat_tests) in
          let nothing = none-left d n (find nat_cmp d es) (subst (λ (k : ℕ). find nat_cmp k es ≡ None) (sym same) (find-above nat_cmp e.0 es (left_of _ _ s))) in
          rw (again, nothing) (ap (λ xs. xs ++ flattened (entries_after nat_cmp (Some d) es)) (ap (λ (k : ℕ). entries_after (slice_cmp nat_cmp) (Some (d ∷ n)) (keyed k (entries e.1))) (sym same) ∙ after-keyed_same d n (entries e.1)))
      by_order Greater is again = rw (after-keyed_greater d e.0 n (entries e.1) is) again

-- the first of what is left of the directory, and else of those above
pub first-keyed : {X : Type 0} (d : ℕ) (rs ys : List (List ℕ × X)) → first_of (keyed d rs ++ ys) ≡ or_else (option_map (λ r. (d ∷ r.0, r.1)) (first_of rs)) (first_of ys)
first-keyed d [] ys = refl
first-keyed d (r ∷ rs) ys = refl

-- ---- a walk from directory to directory
module _ {X : Type 0} (m : Numbers X) (at : Option ℕ) (dir : ℕ) (value : X) where
  at_first : (left : List (ℕ × X)) → entries_after nat_cmp at (entries m) ≡ left → Some (dir, value) ≡ first_of left → entries_after nat_cmp at (entries m) ≡ (dir, value) ∷ entries_after nat_cmp (Some dir) (entries m)
  at_first [] is first = cc
  at_first (e ∷ rest) is first =
      let same : (dir, value) ≡ e = cc in
      let behind : entries_after nat_cmp (Some e.0) (entries m) ≡ rest = after-next nat_cmp nat_cmp_total at (entries m) (entries_sorted m) e rest is in
      subst (λ z. entries_after nat_cmp at (entries m) ≡ z ∷ entries_after nat_cmp (Some z.0) (entries m)) (sym same) (rw behind is)

  -- what a walk shows stands before what is above it
  pub next-first : Some (dir, value) ≡ first_of (entries_after nat_cmp at (entries m)) → entries_after nat_cmp at (entries m) ≡ (dir, value) ∷ entries_after nat_cmp (Some dir) (entries m)
  next-first first = at_first (entries_after nat_cmp at (entries m)) refl first

  pub next-smaller : Some (dir, value) ≡ first_of (entries_after nat_cmp at (entries m)) → length (entries_after nat_cmp (Some dir) (entries m)) < length (entries_after nat_cmp at (entries m))
  next-smaller first = rw (next-first first) (omega arith)

module _ {X : Type 0} (m : Numbers (Names X)) (at : Option ℕ) (dir : ℕ) (names : Names X) where
  -- a directory without rows is passed
  pub next-passed : Some (dir, names) ≡ first_of (entries_after nat_cmp at (entries m)) → None ≡ first_of (entries_after (slice_cmp nat_cmp) None (entries names)) → flattened (entries_after nat_cmp (Some dir) (entries m)) ≡ flattened (entries_after nat_cmp at (entries m))
  next-passed first none =
      let empty : entries names ≡ [] = nothing (entries names) (none ∙ ap first_of (after-none (slice_cmp nat_cmp) (entries names))) in
      rw (next-first m at dir names first, empty) refl
    where
      nothing : (rs : List (List ℕ × X)) → None ≡ first_of rs → rs ≡ []
      nothing [] h = refl
      nothing (r ∷ rs) h = cc

  -- the first row of the directory is the first of all that are left
  pub next-shown : (name : List ℕ) (row : X) → Some (dir, names) ≡ first_of (entries_after nat_cmp at (entries m)) → Some (name, row) ≡ first_of (entries_after (slice_cmp nat_cmp) None (entries names)) → Some (dir ∷ name, row) ≡ first_of (flattened (entries_after nat_cmp at (entries m)))
  next-shown name row first shown =
      rw (next-first m at dir names first, first-keyed dir (entries names) (flattened (entries_after nat_cmp (Some dir) (entries m))), ← after-none (slice_cmp nat_cmp) (entries names), ← shown) refl

-- where no directory is left, no row is
pub none-above : {X : Type 0} (es : List (ℕ × Names X)) → None ≡ first_of es → None ≡ first_of (flattened es)
none-above [] none = refl
none-above (e ∷ es) none = cc

-- ---- a walk from row to row
module _ {X : Type 0} (m : Numbers (Names X)) (dir : ℕ) (after : List ℕ) where
  above : first_of (entries_after (slice_cmp nat_cmp) (Some (dir ∷ after)) (entries (flat m)))
      ≡ or_else (option_map (λ r. (dir ∷ r.0, r.1)) (first_of (entries_after (slice_cmp nat_cmp) (Some after) (entries (names_of (get m dir)))))) (first_of (flattened (entries_after nat_cmp (Some dir) (entries m))))
  above = rw (entries-flat m, after-flattened dir after (entries m) (entries_sorted m), get-entries m dir) (first-keyed dir _ _)

  -- the next row of the directory comes next
  pub above-here : (name : List ℕ) (row : X) → Some (name, row) ≡ first_of (entries_after (slice_cmp nat_cmp) (Some after) (entries (names_of (get m dir)))) → Some (dir ∷ name, row) ≡ first_of (entries_after (slice_cmp nat_cmp) (Some (dir ∷ after)) (entries (flat m)))
  above-here name row here = rw (above, ← here) refl

  -- where the directory has none, the first of the directories above comes next
  pub above-others : None ≡ first_of (entries_after (slice_cmp nat_cmp) (Some after) (entries (names_of (get m dir)))) → first_of (flattened (entries_after nat_cmp (Some dir) (entries m))) ≡ first_of (entries_after (slice_cmp nat_cmp) (Some (dir ∷ after)) (entries (flat m)))
  above-others none = rw (above, ← none) refl

-- before the first row all are left
pub first-of_all : {X : Type 0} (m : Numbers (Names X)) → first_of (flattened (entries_after nat_cmp None (entries m))) ≡ first_of (entries_after (slice_cmp nat_cmp) None (entries (flat m)))
first-of_all m = rw (after-none nat_cmp (entries m), after-none (slice_cmp nat_cmp) (entries (flat m)), entries-flat m) refl
