-- Lists of entries whose keys are distinct, and the map that is made of them.
use Rattle.std.proofs.Common.{◌≡◌, ℕ, suc, ◌+◌, List, [], ◌∷◌, ◌++◌, length, Bool, true, false, cond, refl, sym, ◌∙◌, ap, subst, arith}
use Rattle.std.specs.Prelude.{T, ◌||◌, ◌&&◌, Option, Some, None}
use Rattle.std.specs.List.{list_any}
use Rattle.std.specs.declared.cmp.Ordering.{Ordering}
use Rattle.std.specs.declared.cmp.Ordering.TheVariants.{Less, Equal, Greater}
use Rattle.std.specs.Ordering.{is_eq, is_lt, eq_by_cmp}
use Rattle.std.specs.Cmp.{IsTotalOrder}
use Rattle.std.specs.FinMap.{FinMap, empty, entries, entries_sorted, find, is_sorted, from_entries, get-entries, get-from_entries, len-entries, len-empty, entries-insert}
use Rattle.std.specs.FinMap.Entries.{below_all}
use Rattle.next_ids.specs.Maps.{how_many}
use Rattle.next_ids.proofs.MapLemmas.{list_any-put, how_many-put}

no_entries : {A : Type 0} (xs : List A) → length xs ≡ 0 → xs ≡ []
no_entries [] e = refl
no_entries (x ∷ xs) e = cc

pub entries-empty : {K X : Type 0} (R : K → K → Ordering) → entries (empty {X = X} {R = R}) ≡ []
entries-empty {K} {X} R = no_entries _ (sym (len-entries (empty {X = X} {R = R})) ∙ len-empty R X)

abbrev pub or_else : {X : Type 0} → Option X → Option X → Option X
or_else (Some x) o = Some x
or_else None o = o

one_more : (b : Bool) (n m : ℕ) → n ≡ m → n + cond b 1 0 ≡ cond b (suc m) m
one_more true n m e = omega arith
one_more false n m e = omega arith

module _ {K X : Type 0} (R : K → K → Ordering) where
  pub find-append : (q : K) (xs ys : List (K × X)) → find R q (xs ++ ys) ≡ or_else (find R q xs) (find R q ys)
  find-append q [] ys = refl
  find-append q (x ∷ xs) ys = elim (eq_by_cmp R q x.0) as (λ b. cond b (Some x.1) (find R q (xs ++ ys)) ≡ or_else (cond b (Some x.1) (find R q xs)) (find R q ys)) [ true ↦ refl | false ↦ find-append q xs ys ]

  -- a key is not found among greater ones
  pub find-above : (k : K) (es : List (K × X)) → T (below_all R k es) → find R k es ≡ None
  find-above k [] h = refl
  find-above k (e ∷ es) h = by_test (R k e.0) h (find-above k es)
    where
      by_test : (r : Ordering) → T (is_lt r && below_all R k es) → (T (below_all R k es) → find R k es ≡ None) → cond (is_eq r) (Some e.1) (find R k es) ≡ None
      by_test Less h rest = rest h
      by_test Equal h rest = absurd h
      by_test Greater h rest = absurd h

  -- ---- no key stands twice
  abbrev pub Distinct : List (K × X) → Type 0
  Distinct [] = Unit {0}
  Distinct (e ∷ es) = (find R e.0 es ≡ None) × Distinct es

  sorted_distinct : (es : List (K × X)) → T (is_sorted R es) → Distinct es
  sorted_distinct [] h = tt
  sorted_distinct (e ∷ es) h = by_test (below_all R e.0 es) refl h (sorted_distinct es)
    where
      by_test : (b : Bool) → below_all R e.0 es ≡ b → T (b && is_sorted R es) → (T (is_sorted R es) → Distinct es) → (find R e.0 es ≡ None) × Distinct es
      by_test true is h rest = (find-above e.0 es (subst T (sym is) tt), rest h)
      by_test false is h rest = absurd h

  pub distinct-entries : (m : FinMap R X) → Distinct (entries m)
  distinct-entries m = sorted_distinct (entries m) (entries_sorted m)

  -- no key of the first list is in the second
  abbrev pub Apart : List (K × X) → List (K × X) → Type 0
  Apart [] ys = Unit {0}
  Apart (x ∷ xs) ys = (find R x.0 ys ≡ None) × Apart xs ys

  pub distinct-append : (xs ys : List (K × X)) → Distinct xs → Distinct ys → Apart xs ys → Distinct (xs ++ ys)
  distinct-append [] ys a b apart = b
  distinct-append (x ∷ xs) ys a b apart = (find-append x.0 xs ys ∙ ap (λ o. or_else o (find R x.0 ys)) a.0 ∙ apart.0, distinct-append xs ys a.1 b apart.1)

  -- whether an entry passes, and how many do, is told by the list
  pub list_any-from_entries : IsTotalOrder R → (p : K × X → Bool) (es : List (K × X)) → Distinct es → list_any p (entries (from_entries {R = R} es)) ≡ list_any p es
  list_any-from_entries o p [] h = ap (list_any p) (entries-empty R)
  list_any-from_entries o p (e ∷ es) h =
      ap (list_any p) (entries-insert o (from_entries es) e.0 e.1)
      ∙ list_any-put R p e.0 e.1 (entries (from_entries es)) (sym (get-entries (from_entries es) e.0) ∙ get-from_entries o es e.0 ∙ h.0)
      ∙ ap (λ b. p e || b) (list_any-from_entries o p es h.1)

  pub how_many-from_entries : IsTotalOrder R → (p : K × X → Bool) (es : List (K × X)) → Distinct es → how_many p (entries (from_entries {R = R} es)) ≡ how_many p es
  how_many-from_entries o p [] h = ap (how_many p) (entries-empty R)
  how_many-from_entries o p (e ∷ es) h =
      ap (how_many p) (entries-insert o (from_entries es) e.0 e.1)
      ∙ how_many-put R p e.0 e.1 (entries (from_entries es)) (sym (get-entries (from_entries es) e.0) ∙ get-from_entries o es e.0 ∙ h.0)
      ∙ one_more (p e) _ _ (how_many-from_entries o p es h.1)

pub any-append : {X : Type 0} (p : X → Bool) (xs ys : List X) → list_any p (xs ++ ys) ≡ (list_any p xs || list_any p ys)
any-append p [] ys = refl
any-append p (x ∷ xs) ys = by_test (p x) (any-append p xs ys)
  where
    by_test : (b : Bool) → list_any p (xs ++ ys) ≡ (list_any p xs || list_any p ys) → (b || list_any p (xs ++ ys)) ≡ ((b || list_any p xs) || list_any p ys)
    by_test true e = refl
    by_test false e = e

pub many-append : {X : Type 0} (p : X → Bool) (xs ys : List X) → how_many p (xs ++ ys) ≡ how_many p xs + how_many p ys
many-append p [] ys = omega arith
many-append p (x ∷ xs) ys = grind (arith, many-append p xs ys)
