-- A fact about each key of a map and its value, and what keeps it.
use Rattle.std.proofs.Common.{◌≡◌, List, [], ◌∷◌, Bool, true, false, cond, refl, sym, ap, ◌∙◌, subst, inl, inr}
use Rattle.std.specs.Prelude.{Option, Some, None, flat_map}
use Rattle.std.specs.declared.cmp.Ordering.{Ordering}
use Rattle.std.specs.declared.cmp.Ordering.TheVariants.{Less, Equal, Greater}
use Rattle.std.specs.Ordering.{eq_by_cmp, is_eq}
use Rattle.std.specs.Cmp.{IsTotalOrder}
use Rattle.std.specs.FinMap.{FinMap, IsAntisymmetric, empty, get, insert, remove, entries, find, get-entries, get-empty}
use Rattle.std.proofs.lemmas.Cmp.{tied_itself}
use Rattle.next_ids.specs.Maps.{map_values}
use Rattle.next_ids.proofs.Entries.{Distinct, distinct-entries}
use Rattle.next_laws_order.proofs.Lists.{Every, Every-append}
use Rattle.next_laws_shard.proofs.MapChanges.{from_insert, from_remove, from_map_values}

equal : (r : Ordering) → is_eq r ≡ true → r ≡ Equal
equal Less e = cc
equal Equal e = refl
equal Greater e = cc

none_some : {X : Type 0} {G : Type 0} (o : Option X) (x : X) → o ≡ None → o ≡ Some x → G
none_some o x n s = absurd (cc)

-- where there is a value, the fact holds of it
abbrev pub IfThere : {X : Type 0} → (X → Type 0) → Option X → Type 0
IfThere P None = Unit {0}
IfThere P (Some x) = P x

pub if_there : {X : Type 0} (P : X → Type 0) (o : Option X) → ((x : X) → o ≡ Some x → P x) → IfThere P o
if_there P None h = tt
if_there P (Some x) h = h x refl

pub Every-flat_map : {A B : Type 0} (P : B → Type 0) (Q : A → Type 0) (f : A → List B) (xs : List A) → ((x : A) → Q x → Every P (f x)) → Every Q xs → Every P (flat_map f xs)
Every-flat_map P Q f [] to h = tt
Every-flat_map P Q f (x ∷ xs) to h = Every-append P (f x) (flat_map f xs) (to x h.0) (Every-flat_map P Q f xs to h.1)

module _ {K X : Type 0} {R : K → K → Ordering} (P : K → X → Type 0) where
  abbrev pub EachValue : FinMap R X → Type 0
  EachValue m = (k : K) (x : X) → get m k ≡ Some x → P k x

  pub each-found : (m : FinMap R X) (k : K) → EachValue m → IfThere (P k) (get m k)
  each-found m k h = if_there (P k) (get m k) (h k)

  module _ (o : IsTotalOrder R) (same : IsAntisymmetric R) where
    pub each-insert : (m : FinMap R X) (k : K) (v : X) → P k v → EachValue m → EachValue (insert m k v)
    each-insert m k v here h q x e = elim (from_insert o same m k q v x e) [
      | inl p ↦ subst (λ (y : X). P q y) p.1 (subst (λ (j : K). P j v) (sym p.0) here)
      | inr old ↦ h q x old.1
    ]

    pub each-remove : (m : FinMap R X) (k : K) → EachValue m → EachValue (remove m k)
    each-remove m k h q x e = h q x (from_remove o same m k q x e)

    pub each-values : (f : K → X → X) (m : FinMap R X) → ((k : K) (x : X) → P k x → P k (f k x)) → EachValue m → EachValue (map_values f m)
    each-values f m to h q x e = let old = from_map_values o same f m q x e in subst (P q) old.2 (to q old.0 (h q old.0 old.1))

    found-every : (es : List (K × X)) → Distinct R es → ((k : K) (x : X) → find R k es ≡ Some x → P k x) → Every (λ (e : K × X). P e.0 e.1) es
    found-every [] d h = tt
    found-every (e ∷ es) d h = (h e.0 e.1 (ap (λ r. cond (is_eq r) (Some e.1) (find R e.0 es)) (tied_itself o e.0)), found-every es d.1 (λ k x there. h k x (later k x there (eq_by_cmp R k e.0) refl)))
      where
        later : (k : K) (x : X) → find R k es ≡ Some x → (b : Bool) → eq_by_cmp R k e.0 ≡ b → cond b (Some e.1) (find R k es) ≡ Some x
        later k x there true t = let here : find R e.0 es ≡ Some x = subst (λ (j : K). find R j es ≡ Some x) (same k e.0 (equal (R k e.0) t)) there in none_some (find R e.0 es) x d.0 here
        later k x there false t = there

    pub each-entries : (m : FinMap R X) → EachValue m → Every (λ (e : K × X). P e.0 e.1) (entries m)
    each-entries m h = found-every (entries m) (distinct-entries R m) (λ k x there. h k x (get-entries m k ∙ there))

pub each-empty : {K X : Type 0} (R : K → K → Ordering) (P : K → X → Type 0) → EachValue P (empty {X = X} {R = R})
each-empty {X = X} R P k x e = none_some (get (empty {X = X} {R = R}) k) x (get-empty {X = X} R k) e
