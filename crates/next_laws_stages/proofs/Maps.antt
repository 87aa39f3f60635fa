-- What a map has after an insert or a removal, by whether the key is that one.
use Rattle.std.proofs.Common.{◌≡◌, ◌≢◌, ℕ, List, Bool, true, false, cond, refl, sym, ◌∙◌, ap, subst, ◌⊎◌, inl, inr}
use Rattle.std.specs.Prelude.{Some, None}
use Rattle.std.specs.declared.cmp.Ordering.{Ordering}
use Rattle.std.specs.declared.cmp.Ordering.TheVariants.{Less, Equal, Greater}
use Rattle.std.specs.Ordering.{nat_cmp, is_eq}
use Rattle.std.proofs.lemmas.Cmp.{tied_itself}
use Rattle.std.specs.Cmp.{IsTotalOrder, nat_cmp_total}
use Rattle.std.specs.Cmp.Lexicographic.{slice_cmp, nat_list_cmp_total}
use Rattle.std.specs.FinMap.{FinMap, IsAntisymmetric, get, insert, remove, get-insert, get-remove, nat_cmp-IsAntisymmetric, slice_cmp-IsAntisymmetric}
use Rattle.next_ids.specs.Maps.{Names, Numbers}

module _ {K : Type 0} {R : K → K → Ordering} (o : IsTotalOrder R) (apart : IsAntisymmetric R) where
  tied : (q k : K) → is_eq (R q k) ≡ true → q ≡ k
  tied q k e = by_order (R q k) refl e
    where
      by_order : (r : Ordering) → R q k ≡ r → is_eq r ≡ true → q ≡ k
      by_order Equal is e = apart q k is
      by_order Less is e = cc
      by_order Greater is e = cc

  untied : (q k : K) → is_eq (R q k) ≡ false → q ≢ k
  untied q k e same = let tie = tied_itself o k in let here : is_eq (R k k) ≡ false = subst (λ z. is_eq (R z k) ≡ false) same e in let no : is_eq Equal ≡ false = ap is_eq (sym tie) ∙ here in cc

  keys : (q k : K) → (q ≡ k) ⊎ (q ≢ k)
  keys q k = by_test (is_eq (R q k)) refl
    where
      by_test : (b : Bool) → is_eq (R q k) ≡ b → (q ≡ k) ⊎ (q ≢ k)
      by_test true e = inl (tied q k e)
      by_test false e = inr (untied q k e)

  not_tied : (q k : K) → q ≢ k → is_eq (R q k) ≡ false
  not_tied q k differ = by_test (is_eq (R q k)) refl
    where
      by_test : (b : Bool) → is_eq (R q k) ≡ b → b ≡ false
      by_test true e = absurd (differ (tied q k e))
      by_test false e = refl

module _ {K X : Type 0} {R : K → K → Ordering} (o : IsTotalOrder R) (apart : IsAntisymmetric R) where
  set_here : (m : FinMap R X) (k : K) (v : X) → get (insert m k v) k ≡ Some v
  set_here m k v = get-insert o m k v k ∙ ap (λ r. cond (is_eq r) (Some v) (get m k)) (tied_itself o k)

  cut_here : (m : FinMap R X) (k : K) → get (remove m k) k ≡ None
  cut_here m k = get-remove o m k k ∙ ap (λ r. cond (is_eq r) None (get m k)) (tied_itself o k)

  set_away : (m : FinMap R X) (k q : K) (v : X) → q ≢ k → get (insert m k v) q ≡ get m q
  set_away m k q v differ = get-insert o m k v q ∙ ap (λ b. cond b (Some v) (get m q)) (not_tied o apart q k differ)

  cut_away : (m : FinMap R X) (k q : K) → q ≢ k → get (remove m k) q ≡ get m q
  cut_away m k q differ = get-remove o m k q ∙ ap (λ b. cond b None (get m q)) (not_tied o apart q k differ)

bytes_apart : IsAntisymmetric (slice_cmp nat_cmp)
bytes_apart = slice_cmp-IsAntisymmetric nat_cmp-IsAntisymmetric

module _ {X : Type 0} where
  pub name_set_here : (m : Names X) (k : List ℕ) (v : X) → get (insert m k v) k ≡ Some v
  name_set_here = set_here nat_list_cmp_total bytes_apart

  pub name_set_away : (m : Names X) (k q : List ℕ) (v : X) → q ≢ k → get (insert m k v) q ≡ get m q
  name_set_away = set_away nat_list_cmp_total bytes_apart

  pub name_cut_here : (m : Names X) (k : List ℕ) → get (remove m k) k ≡ None
  name_cut_here = cut_here nat_list_cmp_total bytes_apart

  pub name_cut_away : (m : Names X) (k q : List ℕ) → q ≢ k → get (remove m k) q ≡ get m q
  name_cut_away = cut_away nat_list_cmp_total bytes_apart

  pub set_here_n : (m : Numbers X) (k : ℕ) (v : X) → get (insert m k v) k ≡ Some v
  set_here_n = set_here nat_cmp_total nat_cmp-IsAntisymmetric

  pub set_away_n : (m : Numbers X) (k q : ℕ) (v : X) → q ≢ k → get (insert m k v) q ≡ get m q
  set_away_n = set_away nat_cmp_total nat_cmp-IsAntisymmetric

  pub cut_here_n : (m : Numbers X) (k : ℕ) → get (remove m k) k ≡ None
  cut_here_n = cut_here nat_cmp_total nat_cmp-IsAntisymmetric

  pub cut_away_n : (m : Numbers X) (k q : ℕ) → q ≢ k → get (remove m k) q ≡ get m q
  cut_away_n = cut_away nat_cmp_total nat_cmp-IsAntisymmetric

pub names_tied : (q k : List ℕ) → is_eq (slice_cmp nat_cmp q k) ≡ true → q ≡ k
names_tied = tied nat_list_cmp_total bytes_apart

pub names_or_not : (q k : List ℕ) → (q ≡ k) ⊎ (q ≢ k)
names_or_not = keys nat_list_cmp_total bytes_apart

pub numbers_or_not : (q k : ℕ) → (q ≡ k) ⊎ (q ≢ k)
numbers_or_not = keys nat_cmp_total nat_cmp-IsAntisymmetric
