-- What a map that is made entry by entry has in the end.
use Rattle.std.proofs.Common.{◌≡◌, List, [], ◌∷◌, Bool, true, false, cond, refl, sym, ◌∙◌, ap, subst}
use Rattle.std.specs.Prelude.{T, ◌&&◌, Option, Some, None}
use Rattle.std.specs.declared.cmp.Ordering.{Ordering}
use Rattle.std.specs.declared.cmp.Ordering.TheVariants.{Less, Equal, Greater}
use Rattle.std.specs.Ordering.{eq_by_cmp, is_eq, is_lt}
use Rattle.std.specs.Cmp.{IsTotalOrder}
use Rattle.std.specs.FinMap.{FinMap, IsAntisymmetric, get, empty, entries, entries_sorted, find, is_sorted, get-entries, get-insert, get-empty}
use Rattle.std.specs.FinMap.Entries.{below_all}
use Rattle.cfs_view.specs.Collected.{with_value, with_each}

-- what the value at a key gives, or else what stood there
abbrev pub given : {X Y : Type 0} → (X → Option Y) → Option X → Option Y → Option Y
given value None before = before
given value (Some x) before = elim (value x) [ None ↦ before | Some y ↦ Some y ]

module _ {K X Y : Type 0} {R : K → K → Ordering} (o : IsTotalOrder R) (same : IsAntisymmetric R) (value : K → X → Option Y) where
  get-with_value : (m : FinMap R Y) (k q : K) (v : Option Y) → get (with_value m k v) q ≡ cond (eq_by_cmp R q k) (given (λ (v : Option Y). v) (Some v) (get m q)) (get m q)
  get-with_value m k q None = by_test (eq_by_cmp R q k)
    where
      by_test : (b : Bool) → get m q ≡ cond b (get m q) (get m q)
      by_test true = refl
      by_test false = refl
  get-with_value m k q (Some y) = get-insert o m k y q

  -- no entry above a key ties with it
  find-above : (q x : K) → R q x ≡ Equal → (es : List (K × X)) → T (below_all R x es) → find R q es ≡ None
  find-above q x tie [] h = refl
  find-above q x tie (e ∷ es) h = by_test (R x e.0) refl h (find-above q x tie es)
    where
      by_test : (r : Ordering) → R x e.0 ≡ r → T (is_lt r && below_all R x es) → (T (below_all R x es) → find R q es ≡ None) → cond (is_eq (R q e.0)) (Some e.1) (find R q es) ≡ None
      by_test Less is h rest = rw (o.congr q x e.0 tie, is) (rest h)
      by_test Equal is h rest = absurd h
      by_test Greater is h rest = absurd h

  pub get-with_each : (m : FinMap R Y) (es : List (K × X)) (q : K) → T (is_sorted R es) → get (with_each value m es) q ≡ given (value q) (find R q es) (get m q)
  get-with_each m [] q sorted = refl
  get-with_each m (e ∷ es) q sorted = by_test (R q e.0) refl (below_all R e.0 es) refl sorted (get-with_each (with_value m e.0 (value e.0 e.1)) es q)
    where
      after : FinMap R Y
      after = with_value m e.0 (value e.0 e.1)

      known : Bool → Option Y
      known b = cond b (given (λ (v : Option Y). v) (Some (value e.0 e.1)) (get m q)) (get m q)

      by_test : (r : Ordering) → R q e.0 ≡ r → (b : Bool) → below_all R e.0 es ≡ b → T (b && is_sorted R es)
          → (T (is_sorted R es) → get (with_each value after es) q ≡ given (value q) (find R q es) (get after q))
          → get (with_each value after es) q ≡ given (value q) (cond (is_eq r) (Some e.1) (find R q es)) (get m q)
      by_test r is false below s rest = absurd s
      by_test Less is true below s rest = rest s ∙ ap (given (value q) (find R q es)) (get-with_value m e.0 q (value e.0 e.1) ∙ ap (λ r. known (is_eq r)) is)
      by_test Greater is true below s rest = rest s ∙ ap (given (value q) (find R q es)) (get-with_value m e.0 q (value e.0 e.1) ∙ ap (λ r. known (is_eq r)) is)
      by_test Equal is true below s rest =
          rest s
          ∙ ap (λ f. given (value q) f (get after q)) (find-above q e.0 is es (subst T (sym below) tt))
          ∙ get-with_value m e.0 q (value e.0 e.1)
          ∙ ap (λ r. known (is_eq r)) is
          ∙ ap (λ k. given (λ (v : Option Y). v) (Some (value k e.1)) (get m q)) (sym (same q e.0 is))

  -- from the empty map, and through the entries of a map
  pub get-collected : (m : FinMap R X) (q : K) → get (with_each {R = R} value empty (entries m)) q ≡ given (value q) (get m q) None
  get-collected m q = get-with_each empty (entries m) q (entries_sorted m) ∙ ap (given (value q) (find R q (entries m))) (get-empty R q) ∙ ap (λ f. given (value q) f None) (sym (get-entries m q))
