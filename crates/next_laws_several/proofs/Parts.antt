-- A map of one place, and the map of all places of its kind: how both change, and what lists of their entries have in common.
use Rattle.std.proofs.Common.{◌≡◌, ◌≢◌, ℕ, List, [], ◌∷◌, ◌++◌, flat_map, Bool, true, false, cond, refl, sym, ◌∙◌, ap, arith}
use Rattle.std.specs.Prelude.{T, ◌==◌, ◌||◌, Option, Some, None}
use Rattle.std.proofs.lemmas.Bool.Decides.{nat_tests}
use Rattle.std.specs.Option.{option_map}
use Rattle.std.specs.List.{list_any}
use Rattle.std.specs.declared.cmp.Ordering.{Ordering}
use Rattle.std.specs.declared.cmp.Ordering.TheVariants.{Less, Equal, Greater}
use Rattle.std.specs.Ordering.{eq_by_cmp, is_eq, nat_cmp}
use Rattle.std.specs.Cmp.{IsTotalOrder}
use Rattle.std.specs.Cmp.Lexicographic.{slice_cmp}
use Rattle.std.specs.FinMap.{FinMap, IsAntisymmetric, get, insert, remove, entries, entries_sorted, is_sorted, from_sorted, entries-from_sorted, get-from_sorted, get-insert, get-remove, get-entries, same_map}
use Rattle.std.specs.FinMap.Entries.{where_key, is_sorted-where_key, find-where_key}
use Rattle.next_ids.specs.Maps.{within, map_values}
use Rattle.next_ids.proofs.MapLemmas.{get-map_values}
use Rattle.next_rules.specs.Homes.{LieAt}

-- whether a key lies in the place
abbrev pub lies : {K : Type 0} → (K → ℕ) → ℕ → K → Bool
lies home index k = home k == index

-- the place's map m, and the map w of all, which has the same at the place's keys and at all others what it had, in v
pub record Moves {K X : Type 0} {R : K → K → Ordering} (home : K → ℕ) (index : ℕ) (v m w : FinMap R X) : Type 0 where
  pub own : LieAt home index m
  pub here : (k : K) → home k ≡ index → get w k ≡ get m k
  pub there : (k : K) → home k ≢ index → get w k ≡ get v k

-- keys that tie are the same
module _ {K : Type 0} {R : K → K → Ordering} (same : IsAntisymmetric R) where
  tied : (k q : K) → eq_by_cmp R q k ≡ true → q ≡ k
  tied k q t = by_order (R q k) refl t
    where
      by_order : (r : Ordering) → R q k ≡ r → is_eq r ≡ true → q ≡ k
      by_order Less e h = cc
      by_order Equal e h = same q k e
      by_order Greater e h = cc

  untied : (k q : K) → q ≢ k → eq_by_cmp R q k ≡ false
  untied k q differ = by_test (eq_by_cmp R q k) refl
    where
      by_test : (b : Bool) → eq_by_cmp R q k ≡ b → b ≡ false
      by_test true e = absurd (differ (tied k q e))
      by_test false e = refl

module _ {K X : Type 0} {R : K → K → Ordering} (o : IsTotalOrder R) (same : IsAntisymmetric R) (home : K → ℕ) (index : ℕ) where
  -- ---- a key is set, or cut, or all values are changed
  pub set_one : (v m w : FinMap R X) (k : K) (x : X) → home k ≡ index → Moves home index v m w → Moves home index v (insert m k x) (insert w k x)
  set_one v m w k x at a = record {
    own = λ q y e. by_test q y (eq_by_cmp R q k) refl (sym (get-insert o m k x q) ∙ e);
    here = λ q near. get-insert o w k x q ∙ ap (cond (eq_by_cmp R q k) (Some x)) (a.here q near) ∙ sym (get-insert o m k x q);
    there = λ q away. get-insert o w k x q ∙ ap (λ b. cond b (Some x) (get w q)) (untied same k q (λ e. away (ap home e ∙ at))) ∙ a.there q away;
  }
    where
      by_test : (q : K) (y : X) (b : Bool) → eq_by_cmp R q k ≡ b → cond b (Some x) (get m q) ≡ Some y → home q ≡ index
      by_test q y true t e = ap home (tied same k q t) ∙ at
      by_test q y false t e = a.own q y e

  pub cut_one : (v m w : FinMap R X) (k : K) → home k ≡ index → Moves home index v m w → Moves home index v (remove m k) (remove w k)
  cut_one v m w k at a = record {
    own = λ q y e. by_test q y (eq_by_cmp R q k) refl (sym (get-remove o m k q) ∙ e);
    here = λ q near. get-remove o w k q ∙ ap (cond (eq_by_cmp R q k) None) (a.here q near) ∙ sym (get-remove o m k q);
    there = λ q away. get-remove o w k q ∙ ap (λ b. cond b None (get w q)) (untied same k q (λ e. away (ap home e ∙ at))) ∙ a.there q away;
  }
    where
      by_test : (q : K) (y : X) (b : Bool) → eq_by_cmp R q k ≡ b → cond b None (get m q) ≡ Some y → home q ≡ index
      by_test q y true t e = cc
      by_test q y false t e = a.own q y e

  -- each value by its key, which stays where the key lies elsewhere
  pub map_all : (v m w : FinMap R X) (f : K → X → X) → ((k : K) → home k ≢ index → (x : X) → f k x ≡ x) → Moves home index v m w → Moves home index v (map_values f m) (map_values f w)
  map_all v m w f stays a = record {
    own = λ q y e. was q y (get m q) refl (sym (get-map_values o same f m q) ∙ e);
    here = λ q near. get-map_values o same f w q ∙ ap (option_map (f q)) (a.here q near) ∙ sym (get-map_values o same f m q);
    there = λ q away. get-map_values o same f w q ∙ kept q away (get w q) ∙ a.there q away;
  }
    where
      was : (q : K) (y : X) (r : Option X) → get m q ≡ r → option_map (f q) r ≡ Some y → home q ≡ index
      was q y None at e = cc
      was q y (Some x) at e = a.own q x at

      kept : (q : K) → home q ≢ index → (r : Option X) → option_map (f q) r ≡ r
      kept q away None = refl
      kept q away (Some x) = ap Some (stays q away x)

  -- ---- the place's entries are those of all that lie with it
  pub entries-part : (v m w : FinMap R X) → Moves home index v m w → entries m ≡ where_key R (lies home index) (entries w)
  entries-part v m w a = ap entries alike ∙ entries-from_sorted R kept sorted
    where
      kept : List (K × X)
      kept = where_key R (lies home index) (entries w)

      sorted : T (is_sorted R (where_key R (lies home index) (entries w)))
      sorted = is_sorted-where_key R (lies home index) (entries w) (entries_sorted w)

      absent : (q : K) → home q ≢ index → (r : Option X) → get m q ≡ r → r ≡ None
      absent q away None at = refl
      absent q away (Some x) at = absurd (away (a.own q x at))

      by_test : (q : K) (b : Bool) → lies home index q ≡ b → get m q ≡ cond b (get w q) None
      by_test q true t = let near : home q ≡ index = grind (arith, nat_tests) in sym (a.here q near)
      by_test q false t = let away : home q ≢ index = grind (arith, nat_tests) in absent q away (get m q) refl

      alike : m ≡ from_sorted (where_key R (lies home index) (entries w))
      alike = same_map o same m (from_sorted (where_key R (lies home index) (entries w))) (λ q.
          by_test q (lies home index q) refl
          ∙ ap (λ r. cond (lies home index q) r None) (get-entries w q)
          ∙ sym (find-where_key R (lies home index) q (λ x e. ap (λ (k : K). lies home index k) (sym (same q x e))) (entries w))
          ∙ sym (get-from_sorted R kept q sorted))

-- ---- what is told by the entries that lie there alone
module _ {K X : Type 0} (R : K → K → Ordering) (p : K → Bool) where
  pub any-part : (q : K × X → Bool) → ((e : K × X) → p e.0 ≡ false → q e ≡ false) → (es : List (K × X)) → list_any q (where_key R p es) ≡ list_any q es
  any-part q below [] = refl
  any-part q below (e ∷ es) = by_test (p e.0) refl (any-part q below es)
    where
      by_test : (b : Bool) → p e.0 ≡ b → list_any q (where_key R p es) ≡ list_any q es → list_any q (cond b (e ∷ where_key R p es) (where_key R p es)) ≡ (q e || list_any q es)
      by_test true t rest = ap (λ r. q e || r) rest
      by_test false t rest = rest ∙ ap (λ b. b || list_any q es) (sym (below e t))

  pub flat-part : {Y : Type 0} (f : K × X → List Y) → ((e : K × X) → p e.0 ≡ false → f e ≡ []) → (es : List (K × X)) → flat_map f (where_key R p es) ≡ flat_map f es
  flat-part f below [] = refl
  flat-part f below (e ∷ es) = by_test (p e.0) refl (flat-part f below es)
    where
      by_test : (b : Bool) → p e.0 ≡ b → flat_map f (where_key R p es) ≡ flat_map f es → flat_map f (cond b (e ∷ where_key R p es) (where_key R p es)) ≡ f e ++ flat_map f es
      by_test true t rest = ap (λ r. f e ++ r) rest
      by_test false t rest = rest ∙ ap (λ l. l ++ flat_map f es) (sym (below e t))

pub within-part : {X : Type 0} (p : List ℕ → Bool) (d : ℕ) → ((name : List ℕ) → p (d ∷ name) ≡ true) → (es : List (List ℕ × X)) → within d (where_key (slice_cmp nat_cmp) p es) ≡ within d es
within-part p d here [] = refl
within-part {X} p d here (([], x) ∷ es) = by_test (p []) (within-part p d here es)
  where
    by_test : (b : Bool) → within d (where_key (slice_cmp nat_cmp) p es) ≡ within d es → within d (cond b (([], x) ∷ where_key (slice_cmp nat_cmp) p es) (where_key (slice_cmp nat_cmp) p es)) ≡ within d es
    by_test true rest = rest
    by_test false rest = rest
within-part {X} p d here ((k ∷ name, x) ∷ es) = by_tests (p (k ∷ name)) refl (k == d) refl (within-part p d here es)
  where
    by_tests : (b : Bool) → p (k ∷ name) ≡ b → (c : Bool) → (k == d) ≡ c → within d (where_key (slice_cmp nat_cmp) p es) ≡ within d es
        → within d (cond b ((k ∷ name, x) ∷ where_key (slice_cmp nat_cmp) p es) (where_key (slice_cmp nat_cmp) p es)) ≡ cond c ((name, x) ∷ within d es) (within d es)
    by_tests true t true s rest = rw s (ap (λ l. (name, x) ∷ l) rest)
    by_tests true t false s rest = rw s rest
    by_tests false t true s rest = let same : k ≡ d = grind (arith, nat_tests) in let clash : p (k ∷ name) ≡ true = ap (λ n. p (n ∷ name)) same ∙ here name in cc
    by_tests false t false s rest = rest
