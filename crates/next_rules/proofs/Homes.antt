-- What the one map of several places has: at each key what the place of the key has.
use Rattle.std.proofs.Common.{◌≡◌, ◌≢◌, ℕ, suc, zero, ◌+◌, ◌<◌, List, [], ◌∷◌, flat_map, length, set, Bool, true, false, refl, sym, ◌∙◌, ap, arith}
use Rattle.std.specs.Prelude.{◌==◌, Option, Some, None}
use Rattle.std.proofs.lemmas.Bool.Decides.{nat_tests}
use Rattle.std.specs.declared.cmp.Ordering.{Ordering}
use Rattle.std.specs.Ordering.{is_eq}
use Rattle.std.specs.Cmp.{IsTotalOrder}
use Rattle.std.specs.FinMap.{FinMap, IsAntisymmetric, get, entries, find, get-entries, get-from_entries, same_map}
use Rattle.std.specs.List.{list_any}
use Rattle.std.proofs.lemmas.Cmp.{tied_itself}
use Rattle.next_ids.specs.Maps.{how_many}
use Rattle.next_ids.proofs.Entries.{or_else, find-append, Distinct, distinct-entries, distinct-append, Apart, list_any-from_entries, how_many-from_entries}
use Rattle.next_rules.specs.Homes.{gathered, LieAt, LieFrom}

-- what the map at an index has at a key
abbrev pub get_in : {K X : Type 0} {R : K → K → Ordering} → List (FinMap R X) → ℕ → K → Option X
get_in [] i k = None
get_in (m ∷ ms) zero k = get m k
get_in (m ∷ ms) (suc i) k = get_in ms i k

module _ {K X : Type 0} {R : K → K → Ordering} (o : IsTotalOrder R) (same : IsAntisymmetric R) (home : K → ℕ) where
  -- a key of an earlier place is in no later map
  pub none_later : (i : ℕ) (ms : List (FinMap R X)) (k : K) → LieFrom home i ms → home k < i → find R k (flat_map entries ms) ≡ None
  none_later i [] k h below = refl
  none_later i (m ∷ ms) k h below = find-append R k (entries m) (flat_map entries ms) ∙ ap (λ o. or_else o (find R k (flat_map entries ms))) (sym (get-entries m k) ∙ not_here (get m k) refl) ∙ none_later (suc i) ms k h.1 (omega arith)
    where
      not_here : (o : Option X) → get m k ≡ o → get m k ≡ None
      not_here None e = e
      not_here (Some x) e = let at = h.0 k x e in absurd (omega arith)

  found_at : (i : ℕ) (ms : List (FinMap R X)) (k : K) (n : ℕ) → LieFrom home i ms → home k ≡ n + i → find R k (flat_map entries ms) ≡ get_in ms n k
  found_at i [] k n h at = refl
  found_at i (m ∷ ms) k zero h at =
      find-append R k (entries m) (flat_map entries ms)
      ∙ ap (or_else (find R k (entries m))) (none_later (suc i) ms k h.1 (omega arith))
      ∙ only (find R k (entries m)) ∙ sym (get-entries m k)
    where
      only : (o : Option X) → or_else o None ≡ o
      only None = refl
      only (Some x) = refl
  found_at i (m ∷ ms) k (suc n) h at =
      find-append R k (entries m) (flat_map entries ms)
      ∙ ap (λ o. or_else o (find R k (flat_map entries ms))) (sym (get-entries m k) ∙ not_here (get m k) refl)
      ∙ found_at (suc i) ms k n h.1 (omega arith)
    where
      not_here : (o : Option X) → get m k ≡ o → get m k ≡ None
      not_here None e = e
      not_here (Some x) e = let here = h.0 k x e in absurd (omega arith)

  pub get-gathered : (ms : List (FinMap R X)) (k : K) → LieFrom home 0 ms → get (gathered ms) k ≡ get_in ms (home k) k
  unfolding gathered
  get-gathered ms k h = get-from_entries o (flat_map entries ms) k ∙ found_at 0 ms k (home k) h (omega arith)

  -- ---- the map of one place changes
  get_in-set_same : (ms : List (FinMap R X)) (i : ℕ) (m : FinMap R X) (k : K) → i < length ms → get_in (set ms i m) i k ≡ get m k
  get_in-set_same [] i m k lt = absurd (omega arith)
  get_in-set_same (x ∷ ms) zero m k lt = refl
  get_in-set_same (x ∷ ms) (suc i) m k lt = get_in-set_same ms i m k (omega arith)

  get_in-set_other : (ms : List (FinMap R X)) (i : ℕ) (m : FinMap R X) (n : ℕ) (k : K) → n ≢ i → get_in (set ms i m) n k ≡ get_in ms n k
  get_in-set_other [] i m n k differ = refl
  get_in-set_other (x ∷ ms) zero m zero k differ = absurd (differ refl)
  get_in-set_other (x ∷ ms) zero m (suc n) k differ = refl
  get_in-set_other (x ∷ ms) (suc i) m zero k differ = refl
  get_in-set_other (x ∷ ms) (suc i) m (suc n) k differ = get_in-set_other ms i m n k (λ e. differ (ap suc e))

  pub LieFrom-set : (first : ℕ) (ms : List (FinMap R X)) (i : ℕ) (m : FinMap R X) → LieFrom home first ms → LieAt home (i + first) m → LieFrom home first (set ms i m)
  LieFrom-set first [] i m h own = tt
  LieFrom-set first (x ∷ ms) zero m h own = ((λ k y e. let at = own k y e in omega arith), h.1)
  LieFrom-set first (x ∷ ms) (suc i) m h own = (h.0, LieFrom-set (suc first) ms i m h.1 (λ k y e. let at = own k y e in omega arith))

  -- a whole map that has at the place's keys what its new map has, and else what it had
  pub gathered-set : (ms : List (FinMap R X)) (i : ℕ) (m w : FinMap R X) → i < length ms → LieFrom home 0 ms → LieAt home i m
      → ((k : K) → home k ≡ i → get w k ≡ get m k) → ((k : K) → home k ≢ i → get w k ≡ get (gathered ms) k)
      → gathered (set ms i m) ≡ w
  gathered-set ms i m w lt h own here there = same_map o same (gathered (set ms i m)) w (λ k.
      get-gathered (set ms i m) k (LieFrom-set 0 ms i m h (λ k x e. let at = own k x e in omega arith)) ∙ by_test k (home k == i) refl)
    where
      by_test : (k : K) (b : Bool) → (home k == i) ≡ b → get_in (set ms i m) (home k) k ≡ get w k
      by_test k true t = let at : home k ≡ i = grind (arith, nat_tests) in rw at (get_in-set_same ms i m k lt ∙ sym (here k at))
      by_test k false t = let away : home k ≢ i = grind (arith, nat_tests) in get_in-set_other ms i m (home k) k away ∙ sym (there k away ∙ get-gathered ms k h)

  -- ---- all entries of the places stand under distinct keys
  apart : (i : ℕ) (es : List (K × X)) (ms : List (FinMap R X)) → LieFrom home (suc i) ms → ((k : K) (x : X) → find R k es ≡ Some x → home k ≡ i) → Apart R es (flat_map entries ms)
  apart i [] ms h here = tt
  apart i (e ∷ es) ms h here = (none_later (suc i) ms e.0 h (let at = here e.0 e.1 (rw (tied_itself o e.0) refl) in omega arith), apart i es ms h (λ k x found. by_test k x found (is_eq (R k e.0)) refl))
    where
      by_test : (k : K) (x : X) → find R k es ≡ Some x → (b : Bool) → is_eq (R k e.0) ≡ b → home k ≡ i
      by_test k x found true t = here k e.1 (rw t refl)
      by_test k x found false t = here k x (rw t found)

  distinct : (i : ℕ) (ms : List (FinMap R X)) → LieFrom home i ms → Distinct R (flat_map entries ms)
  distinct i [] h = tt
  distinct i (m ∷ ms) h = distinct-append R (entries m) (flat_map entries ms) (distinct-entries R m) (distinct (suc i) ms h.1) (apart i (entries m) ms h.1 (λ k x found. h.0 k x (get-entries m k ∙ found)))

  pub any-gathered : (p : K × X → Bool) (ms : List (FinMap R X)) → LieFrom home 0 ms → list_any p (entries (gathered ms)) ≡ list_any p (flat_map entries ms)
  unfolding gathered
  any-gathered p ms h = list_any-from_entries R o p (flat_map entries ms) (distinct 0 ms h)

  pub many-gathered : (p : K × X → Bool) (ms : List (FinMap R X)) → LieFrom home 0 ms → how_many p (entries (gathered ms)) ≡ how_many p (flat_map entries ms)
  unfolding gathered
  many-gathered p ms h = how_many-from_entries R o p (flat_map entries ms) (distinct 0 ms h)
