-- What passes a test among the entries of a map is found in it.
use Rattle.std.proofs.Common.{◌≡◌, ℕ, List, [], ◌∷◌, Bool, true, false, cond, refl, sym, ◌∙◌, subst}
use Rattle.std.proofs.Math.Bool.{or-true}
use Rattle.std.specs.Prelude.{◌||◌, Some, None}
use Rattle.std.proofs.lemmas.Cmp.{tied_itself}
use Rattle.std.specs.List.{list_any}
use Rattle.std.specs.declared.cmp.Ordering.{Ordering}
use Rattle.std.specs.declared.cmp.Ordering.TheVariants.{Less, Equal, Greater}
use Rattle.std.specs.Ordering.{is_eq, nat_cmp}
use Rattle.std.specs.Cmp.{IsTotalOrder, nat_cmp_total}
use Rattle.std.specs.Cmp.Lexicographic.{slice_cmp, nat_list_cmp_total}
use Rattle.std.specs.FinMap.{FinMap, IsAntisymmetric, get, entries, find, get-entries, nat_cmp-IsAntisymmetric, slice_cmp-IsAntisymmetric}
use Rattle.next_ids.specs.Maps.{Names, Numbers}
use Rattle.next_ids.proofs.Entries.{Distinct, distinct-entries}

-- a value that passes, with its key
pub record Found {K X : Type 0} (R : K → K → Ordering) (p : K × X → Bool) (es : List (K × X)) : Type 0 where
  pub key : K
  pub value : X
  pub there : find R key es ≡ Some value
  pub passes : p (key, value) ≡ true

module _ {K X : Type 0} (R : K → K → Ordering) (o : IsTotalOrder R) (same : IsAntisymmetric R) where
  pub find-first : (e : K × X) (es : List (K × X)) → find R e.0 (e ∷ es) ≡ Some e.1
  find-first e es = rw (tied_itself o e.0) refl

  -- what is found behind an entry with another key is found with it
  pub find-later : (e : K × X) (es : List (K × X)) → find R e.0 es ≡ None → (k : K) (x : X) → find R k es ≡ Some x → find R k (e ∷ es) ≡ Some x
  find-later e es none k x is = by_key (R k e.0) refl
    where
      by_key : (r : Ordering) → R k e.0 ≡ r → cond (is_eq r) (Some e.1) (find R k es) ≡ Some x
      by_key Less at = is
      by_key Greater at = is
      by_key Equal at = absurd (let clash : find R k es ≡ None = subst (λ q. find R q es ≡ None) (sym (same k e.0 at)) none in cc)

  found-among : (p : K × X → Bool) (es : List (K × X)) → Distinct R es → list_any p es ≡ true → Found R p es
  found-among p [] apart h = cc
  found-among p (e ∷ es) apart h = by_test (p e) refl h (found-among p es apart.1)
    where
      later : Found R p es → Found R p (e ∷ es)
      later f = record { key = f.key; value = f.value; there = find-later e es apart.0 f.key f.value f.there; passes = f.passes }

      by_test : (b : Bool) → p e ≡ b → (b || list_any p es) ≡ true → (list_any p es ≡ true → Found R p es) → Found R p (e ∷ es)
      by_test true is h rest = record { key = e.0; value = e.1; there = find-first e es; passes = is }
      by_test false is h rest = later (rest h)

  passes-among : (p : K × X → Bool) (es : List (K × X)) (k : K) (x : X) → find R k es ≡ Some x → p (k, x) ≡ true → list_any p es ≡ true
  passes-among p [] k x is passes = cc
  passes-among p (e ∷ es) k x is passes = by_key (R k e.0) refl is (passes-among p es k x)
    where
      by_key : (r : Ordering) → R k e.0 ≡ r → cond (is_eq r) (Some e.1) (find R k es) ≡ Some x → (find R k es ≡ Some x → p (k, x) ≡ true → list_any p es ≡ true) → (p e || list_any p es) ≡ true
      by_key Less at is rest = rw (rest is passes) (or-true (p e))
      by_key Greater at is rest = rw (rest is passes) (or-true (p e))
      by_key Equal at is rest =
          let value : x ≡ e.1 = cc in
          let here : p e ≡ true = subst (λ q. p (q, e.1) ≡ true) (same k e.0 at) (subst (λ y. p (k, y) ≡ true) value passes) in
          rw here refl

  found-entry : (p : K × X → Bool) (m : FinMap R X) → list_any p (entries m) ≡ true → Found R p (entries m)
  found-entry p m h = found-among p (entries m) (distinct-entries R m) h

  passes-entry : (p : K × X → Bool) (m : FinMap R X) (k : K) (x : X) → get m k ≡ Some x → p (k, x) ≡ true → list_any p (entries m) ≡ true
  passes-entry p m k x is passes = passes-among p (entries m) k x (sym (get-entries m k) ∙ is) passes

-- the same in a directory's names
pub found-name : {X : Type 0} (p : List ℕ × X → Bool) (m : Names X) → list_any p (entries m) ≡ true → Found (slice_cmp nat_cmp) p (entries m)
found-name p m h = found-entry (slice_cmp nat_cmp) nat_list_cmp_total (slice_cmp-IsAntisymmetric nat_cmp-IsAntisymmetric) p m h

pub passes-name : {X : Type 0} (p : List ℕ × X → Bool) (m : Names X) (name : List ℕ) (x : X) → get m name ≡ Some x → p (name, x) ≡ true → list_any p (entries m) ≡ true
passes-name p m name x is passes = passes-entry (slice_cmp nat_cmp) nat_list_cmp_total (slice_cmp-IsAntisymmetric nat_cmp-IsAntisymmetric) p m name x is passes

-- and among the directories
pub found-number : {X : Type 0} (p : ℕ × X → Bool) (m : Numbers X) → list_any p (entries m) ≡ true → Found nat_cmp p (entries m)
found-number p m h = found-entry nat_cmp nat_cmp_total nat_cmp-IsAntisymmetric p m h

pub passes-number : {X : Type 0} (p : ℕ × X → Bool) (m : Numbers X) (k : ℕ) (x : X) → get m k ≡ Some x → p (k, x) ≡ true → list_any p (entries m) ≡ true
passes-number p m k x is passes = passes-entry nat_cmp nat_cmp_total nat_cmp-IsAntisymmetric p m k x is passes
