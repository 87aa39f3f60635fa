-- What a removal does to the entries of a finite map, and to counts over them.
use Rattle.std.proofs.Common.{◌≡◌, ◌+◌, List, [], ◌∷◌, Bool, true, false, cond, not, refl, sym, ◌∙◌, ap, subst, arith}
use Rattle.std.specs.Prelude.{T, ◌&&◌, Option, Some, None}
use Rattle.std.specs.declared.cmp.Ordering.{Ordering}
use Rattle.std.specs.declared.cmp.Ordering.TheVariants.{Less, Equal, Greater}
use Rattle.std.specs.Ordering.{eq_by_cmp, is_eq, is_lt}
use Rattle.std.specs.Cmp.{IsTotalOrder, eq_by_cmp_equiv}
use Rattle.std.specs.FinMap.{FinMap, IsAntisymmetric, get, remove, entries, entries_sorted, find, is_sorted, from_sorted, entries-from_sorted, get-from_sorted, get-remove, get-entries, same_map}
use Rattle.next_ids.specs.Maps.{how_many}
use Rattle.std.specs.FinMap.Entries.{where_key, is_sorted-where_key, find-where_key, below_all}

module _ {K X : Type 0} {R : K → K → Ordering} (o : IsTotalOrder R) (same : IsAntisymmetric R) where
  pub entries-remove : (m : FinMap R X) (k : K) → entries (remove m k) ≡ where_key R (λ x. not (eq_by_cmp R k x)) (entries m)
  entries-remove m k = ap entries alike ∙ entries-from_sorted R kept sorted
    where
      kept : List (K × X)
      kept = where_key R (λ x. not (eq_by_cmp R k x)) (entries m)

      sorted : T (is_sorted R (where_key R (λ x. not (eq_by_cmp R k x)) (entries m)))
      sorted = is_sorted-where_key R (λ x. not (eq_by_cmp R k x)) (entries m) (entries_sorted m)

      turned : (b : Bool) (x : Option X) → cond b None x ≡ cond (not b) x None
      turned true x = refl
      turned false x = refl

      alike : remove m k ≡ from_sorted (where_key R (λ x. not (eq_by_cmp R k x)) (entries m))
      alike = same_map o same (remove m k) (from_sorted (where_key R (λ x. not (eq_by_cmp R k x)) (entries m))) (λ q.
          get-remove o m k q ∙ ap (λ b. cond b None (get m q)) (sym ((eq_by_cmp_equiv o).symm k q)) ∙ turned (eq_by_cmp R k q) (get m q) ∙ ap (λ x. cond (not (eq_by_cmp R k q)) x None) (get-entries m q)
          ∙ sym (find-where_key R (λ x. not (eq_by_cmp R k x)) q (λ x e. ap (λ (y : K). not (eq_by_cmp R k y)) (sym (same q x e))) (entries m))
          ∙ sym (get-from_sorted R kept q sorted))

-- a key that is not found is in no entry, and nothing is cut
how_many-absent : {K X : Type 0} (R : K → K → Ordering) (p : K × X → Bool) (k : K) (es : List (K × X)) → find R k es ≡ None → where_key R (λ x. not (eq_by_cmp R k x)) es ≡ es
how_many-absent R p k [] e = refl
how_many-absent R p k (x ∷ es) e = by_test (eq_by_cmp R k x.0) e (how_many-absent R p k es)
  where
    by_test : (b : Bool) → cond b (Some x.1) (find R k es) ≡ None → (find R k es ≡ None → where_key R (λ y. not (eq_by_cmp R k y)) es ≡ es) → cond (not b) (x ∷ where_key R (λ y. not (eq_by_cmp R k y)) es) (where_key R (λ y. not (eq_by_cmp R k y)) es) ≡ x ∷ es
    by_test true e rest = cc
    by_test false e rest = ap (λ ys. x ∷ ys) (rest e)

module _ {K X : Type 0} (R : K → K → Ordering) (o : IsTotalOrder R) where
  -- no entry above a key ties with it
  find-above : (k x : K) → R k x ≡ Equal → (es : List (K × X)) → T (below_all R x es) → find R k es ≡ None
  find-above k x tie [] h = refl
  find-above k x tie (e ∷ es) h = by_test (R x e.0) refl h (find-above k x tie es)
    where
      by_test : (r : Ordering) → R x e.0 ≡ r → T (is_lt r && below_all R x es) → (T (below_all R x es) → find R k es ≡ None) → cond (is_eq (R k e.0)) (Some e.1) (find R k es) ≡ None
      by_test Less is h rest = rw (o.congr k x e.0 tie, is) (rest h)
      by_test Equal is h rest = absurd h
      by_test Greater is h rest = absurd h

  -- to cut a key that is found takes one entry, whose key ties
  pub how_many-cut : (same : IsAntisymmetric R) (p : K × X → Bool) (k : K) (v : X) (es : List (K × X)) → T (is_sorted R es) → find R k es ≡ Some v
      → how_many p (where_key R (λ x. not (eq_by_cmp R k x)) es) + cond (p (k, v)) 1 0 ≡ how_many p es
  how_many-cut same p k v [] sorted e = cc
  how_many-cut same p k v (x ∷ es) sorted e = by_test (R k x.0) refl e (below_all R x.0 es) refl sorted (how_many-cut same p k v es)
    where
      by_test : (r : Ordering) → R k x.0 ≡ r → cond (is_eq r) (Some x.1) (find R k es) ≡ Some v → (b : Bool) → below_all R x.0 es ≡ b → T (b && is_sorted R es)
          → (T (is_sorted R es) → find R k es ≡ Some v → how_many p (where_key R (λ y. not (eq_by_cmp R k y)) es) + cond (p (k, v)) 1 0 ≡ how_many p es)
          → how_many p (cond (not (is_eq r)) (x ∷ where_key R (λ y. not (eq_by_cmp R k y)) es) (where_key R (λ y. not (eq_by_cmp R k y)) es)) + cond (p (k, v)) 1 0 ≡ how_many p (x ∷ es)
      by_test Equal is e true below s rest =
          let none = find-above k x.0 is es (subst T (sym below) tt) in
          let key : k ≡ x.0 = same k x.0 is in
          let value : x.1 ≡ v = cc in
          rw (how_many-absent R p k es none, key, ← value) (grind arith)
      by_test Less is e true below s rest = let r = rest s e in grind (arith, r)
      by_test Greater is e true below s rest = let r = rest s e in grind (arith, r)
      by_test r is e false below s rest = absurd s
