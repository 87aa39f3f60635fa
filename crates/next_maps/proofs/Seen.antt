-- What an ordered tree is seen as: the finite map of its entries.
use Rattle.std.proofs.Common.{◌≡◌, List, [], ◌∷◌, length, Bool, true, false, cond, refl, sym, ◌∙◌, ap, subst}
use Rattle.std.specs.Prelude.{T, ◌&&◌, Option, Some, None, IsSome}
use Rattle.std.specs.Option.{OnSome, option_copied_mut}
use Rattle.std.specs.Borrow.{MutBor}
use Rattle.std.specs.declared.cmp.Ordering.{Ordering}
use Rattle.std.specs.declared.cmp.Ordering.TheVariants.{Less}
use Rattle.std.specs.Ordering.{eq_by_cmp, is_lt}
use Rattle.std.specs.Cmp.{IsTotalOrder, eq_by_cmp_equiv}
use Rattle.std.specs.List.{AllByRecursion}
use Rattle.std.specs.List.Sorted.{IsStrictlySortedBy}
use Rattle.std.proofs.lemmas.Map.Keys.{sorted_head, sorted_tail}
use Rattle.std.specs.Map.{lookup, keys_of}
use Rattle.std.specs.BTreeMap.{BTreeMap, is_at, Updates, WritesThrough, IsOrdered}
use Rattle.std.specs.FinMap.{IsAntisymmetric, get, insert, remove, len, entries, find, is_sorted, from_entries, from_sorted, entries-from_sorted, get-from_sorted, get-from_entries, get-insert, get-remove, len-entries, same_map}
use Rattle.std.specs.FinMap.Entries.{below_all}

both : (a b : Bool) → T a → T b → T (a && b)
both true b p q = q
both false b p q = absurd p

module _ {K X : Type 0} (R : K → K → Ordering) where
  below : (k : K) (es : List (K × X)) → AllByRecursion (λ y. R k y ≡ Less) (keys_of es) → T (below_all R k es)
  below k [] h = tt
  below k (e ∷ es) h = both _ _ (subst (λ r. T (is_lt r)) (sym h.0) tt) (below k es h.1)

  rising : (es : List (K × X)) → IsStrictlySortedBy R (keys_of es) → T (is_sorted R es)
  rising [] h = tt
  rising (e ∷ es) h = both _ _ (below e.0 es (sorted_head R e.0 (keys_of es) h)) (rising es (sorted_tail R e.0 (keys_of es) h))

  find-lookup : (q : K) (es : List (K × X)) → find R q es ≡ lookup (is_at (R q)) es
  find-lookup q [] = refl
  find-lookup q (e ∷ es) = ap (cond (eq_by_cmp R q e.0) (Some e.1)) (find-lookup q es)

module _ {K X : Type 0} {R : K → K → Ordering} (o : IsTotalOrder R) where
  pub get-seen : (es : List (K × X)) (q : K) → get (from_entries {R = R} es) q ≡ lookup (is_at (R q)) es
  get-seen es q = get-from_entries o es q ∙ find-lookup R q es

module _ {K X : Type 0} {R : K → K → Ordering} (o : IsTotalOrder R) (same : IsAntisymmetric R) where
  pub entries-seen : (m : BTreeMap K X) → IsOrdered R m → entries (from_entries {R = R} m.entries) ≡ m.entries
  entries-seen m h =
      ap entries (same_map o same (from_entries m.entries) (from_sorted m.entries) (λ q. get-from_entries o m.entries q ∙ sym (get-from_sorted R m.entries q (rising R m.entries h))))
      ∙ entries-from_sorted R m.entries (rising R m.entries h)

  pub len-seen : (m : BTreeMap K X) → IsOrdered R m → len (from_entries {R = R} m.entries) ≡ length m.entries
  len-seen m h = len-entries _ ∙ ap length (entries-seen m h)

  pub insert-seen : (m n : BTreeMap K X) (k : K) (v : X) → Updates R m n k (Some v) → from_entries {R = R} n.entries ≡ insert (from_entries m.entries) k v
  insert-seen m n k v updates = same_map o same _ _ (λ q.
      get-seen o n.entries q ∙ updates.0 q ∙ ap (λ b. cond b (Some v) (lookup (is_at (R q)) m.entries)) ((eq_by_cmp_equiv o).symm k q)
      ∙ ap (cond (eq_by_cmp R q k) (Some v)) (sym (get-seen o m.entries q)) ∙ sym (get-insert o (from_entries m.entries) k v q))

  pub remove-seen : (m n : BTreeMap K X) (k : K) → Updates R m n k None → from_entries {R = R} n.entries ≡ remove (from_entries m.entries) k
  remove-seen m n k updates = same_map o same _ _ (λ q.
      get-seen o n.entries q ∙ updates.0 q ∙ ap (λ b. cond b None (lookup (is_at (R q)) m.entries)) ((eq_by_cmp_equiv o).symm k q)
      ∙ ap (cond (eq_by_cmp R q k) None) (sym (get-seen o m.entries q)) ∙ sym (get-remove o (from_entries m.entries) k q))

  -- to write through what was lent at a key that is there is to insert
  pub written-seen : (m n : BTreeMap K X) (k : K) (w : X) → WritesThrough R (R k) m w n → IsSome (lookup (is_at (R k)) m.entries) → from_entries {R = R} n.entries ≡ insert (from_entries m.entries) k w
  written-seen m n k w h there = insert-seen m n k w (h.3 there)

-- what holds where a value was lent
pub where_lent : {X : Type 0} (r : Option (MutBor X)) (found : Option X) (P : Type 0) → option_copied_mut r ≡ found → (IsSome found → P) → OnSome r P
where_lent None found P value h = tt
where_lent (Some x) found P value h = h (subst IsSome value refl)

-- a value that is there was lent
pub is_lent : {X : Type 0} (r : Option (MutBor X)) (x : X) → option_copied_mut r ≡ Some x → IsSome r
is_lent None x e = subst IsSome (sym e) refl
is_lent (Some y) x e = refl
