-- What a map has after a key is set or cut, or after each value is changed.
use Rattle.std.proofs.Common.{◌≡◌, ◌≢◌, ℕ, ◌+◌, ◌-◌, ◌≤◌, List, [], ◌∷◌, map, length, Bool, true, false, cond, refl, sym, ap, ◌∙◌, arith, ◌⊎◌, inl, inr}
use Rattle.std.specs.Prelude.{Option, Some, None}
use Rattle.std.specs.Option.{option_map}
use Rattle.std.specs.declared.cmp.Ordering.{Ordering}
use Rattle.std.specs.declared.cmp.Ordering.TheVariants.{Less, Equal, Greater}
use Rattle.std.specs.Ordering.{eq_by_cmp, is_eq}
use Rattle.std.specs.Cmp.{IsTotalOrder}
use Rattle.std.specs.FinMap.{FinMap, IsAntisymmetric, get, insert, remove, len, contains_key, entries, from_entries, get-insert, get-remove, len-insert, len-remove, len-empty, len-entries}
use Rattle.std.proofs.lemmas.Cmp.{tied_itself}
use Rattle.next_ids.specs.Maps.{map_values}
use Rattle.next_ids.proofs.MapLemmas.{get-map_values}

equal : (r : Ordering) → is_eq r ≡ true → r ≡ Equal
equal Less e = cc
equal Equal e = refl
equal Greater e = cc

module _ {K X : Type 0} {R : K → K → Ordering} (o : IsTotalOrder R) (same : IsAntisymmetric R) where
  pub from_insert : (m : FinMap R X) (k q : K) (v x : X) → get (insert m k v) q ≡ Some x → ((q ≡ k) × (v ≡ x)) ⊎ ((q ≢ k) × (get m q ≡ Some x))
  from_insert m k q v x e = by_test (eq_by_cmp R q k) refl (sym (get-insert o m k v q) ∙ e)
    where
      by_test : (b : Bool) → eq_by_cmp R q k ≡ b → cond b (Some v) (get m q) ≡ Some x → ((q ≡ k) × (v ≡ x)) ⊎ ((q ≢ k) × (get m q ≡ Some x))
      by_test true t e = let value : v ≡ x = cc in inl (same q k (equal (R q k) t), value)
      by_test false t e = inr ((λ key. let tied = ap (λ r. is_eq r) (ap (R q) (sym key) ∙ tied_itself o q) in untied (eq_by_cmp R q k) t tied), e)
        where
          untied : (b : Bool) → b ≡ false → b ≡ true → ⊥
          untied b f t = cc

  pub from_remove : (m : FinMap R X) (k q : K) (x : X) → get (remove m k) q ≡ Some x → get m q ≡ Some x
  from_remove m k q x e = by_test (eq_by_cmp R q k) (sym (get-remove o m k q) ∙ e)
    where
      by_test : (b : Bool) → cond b None (get m q) ≡ Some x → get m q ≡ Some x
      by_test true e = cc
      by_test false e = e

  pub from_map_values : (f : K → X → X) (m : FinMap R X) (q : K) (x : X) → get (map_values f m) q ≡ Some x → (y : X) × (get m q ≡ Some y) × (f q y ≡ x)
  from_map_values f m q x e = by_found (get m q) refl (sym (get-map_values o same f m q) ∙ e)
    where
      by_found : (found : Option X) → get m q ≡ found → option_map (f q) found ≡ Some x → (y : X) × (get m q ≡ Some y) × (f q y ≡ x)
      by_found None t e = cc
      by_found (Some y) t e = let value : f q y ≡ x = cc in (y, t, value)

  pub len-set : (m : FinMap R X) (k : K) (v : X) → len (insert m k v) ≤ len m + 1
  len-set m k v = let e = len-insert o m k v in let le = at_most (contains_key m k) (len m) in omega arith
    where
      at_most : (b : Bool) (n : ℕ) → cond b n (n + 1) ≤ n + 1
      at_most true n = omega arith
      at_most false n = omega arith

  pub len-cut : (m : FinMap R X) (k : K) → len (remove m k) ≤ len m
  len-cut m k = let e = len-remove o m k in let le = at_most (contains_key m k) (len m) in omega arith
    where
      at_most : (b : Bool) (n : ℕ) → cond b (n - 1) n ≤ n
      at_most true n = omega arith
      at_most false n = omega arith

  len-made : (es : List (K × X)) → len (from_entries {R = R} es) ≤ length es
  len-made [] = let e = len-empty R X in omega arith
  len-made (e ∷ es) = let le = len-set (from_entries es) e.0 e.1 in let rest = len-made es in omega arith

  length-map : (f : K → X → X) (es : List (K × X)) → length {A = K × X} (map (λ e. (e.0, f e.0 e.1)) es) ≡ length es
  length-map f [] = refl
  length-map f (e ∷ es) = let rest = length-map f es in omega arith

  pub len-values : (f : K → X → X) (m : FinMap R X) → len (map_values f m) ≤ len m
  len-values f m =
      let made = len-made (map (λ e. (e.0, f e.0 e.1)) (entries m)) in
      let all = length-map f (entries m) in
      let whole = len-entries m in
      omega arith
