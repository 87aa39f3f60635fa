-- A walk from key to key goes through the entries in order.
use Rattle.std.proofs.Common.{◌≡◌, List, [], ◌∷◌, Bool, true, false, cond, refl, sym, ◌∙◌, ap, subst}
use Rattle.std.specs.Prelude.{T, ◌&&◌, Option, Some, None}
use Rattle.std.specs.declared.cmp.Ordering.{Ordering}
use Rattle.std.specs.declared.cmp.Ordering.TheVariants.{Less, Equal, Greater}
use Rattle.std.specs.declared.ops.Bound.{Bound}
use Rattle.std.specs.declared.ops.Bound.TheVariants.{Excluded, Unbounded}
use Rattle.std.specs.Ordering.{is_lt}
use Rattle.std.specs.Cmp.{IsTotalOrder, tied_itself}
use Rattle.std.specs.FinMap.{is_sorted}
use Rattle.std.specs.FinMap.Entries.{below_all}
use Rattle.std.specs.BTreeMap.Range.{entries_between}
use Rattle.std.specs.Option.{option_map}
use Rattle.std.specs.Map.Iter.{TakesFirst}
use Rattle.next_maps.specs.Walks.{is_after, entries_after, first_of}

-- where a walk starts
abbrev pub start_of : {K : Type 0} → Option K → Bound K
start_of None = Unbounded
start_of (Some at) = Excluded at

-- what is left of a walk is a range with no end
pub between-after : {K X : Type 0} (R : K → K → Ordering) (at : Option K) (es : List (K × X)) → entries_between R (start_of at) Unbounded es ≡ entries_after R at es
between-after R at [] = refl
between-after R None (e ∷ es) = ap (λ rest. e ∷ rest) (between-after R None es)
between-after R (Some at) (e ∷ es) = by_test (is_lt (R at e.0)) (between-after R (Some at) es)
  where
    by_test : (b : Bool) → entries_between R (Excluded at) Unbounded es ≡ entries_after R (Some at) es → cond (b && true) (e ∷ entries_between R (Excluded at) Unbounded es) (entries_between R (Excluded at) Unbounded es) ≡ cond b (e ∷ entries_after R (Some at) es) (entries_after R (Some at) es)
    by_test true h = ap (λ rest. e ∷ rest) h
    by_test false h = h

-- what `next` of an iterator shows is the first of what it had left
pub first-shown : {A X : Type 0} (shows : A → X) (left : List X) (r : Option A) (rest : List X) → TakesFirst shows left r rest → option_map shows r ≡ first_of left
first-shown shows left None rest steps = ap first_of (sym steps.0)
first-shown shows left (Some x) rest steps = ap first_of (sym steps)

-- before the first entry all are left
pub after-none : {K X : Type 0} (R : K → K → Ordering) (es : List (K × X)) → entries_after R None es ≡ es
after-none R [] = refl
after-none R (e ∷ es) = ap (λ rest. e ∷ rest) (after-none R es)

second : (a b : Bool) → T (a && b) → T b
second true b h = h
second false b h = absurd h

first : (a b : Bool) → T (a && b) → T a
first true b h = tt
first false b h = absurd h

less : (r : Ordering) → T (is_lt r) → r ≡ Less
less Less h = refl
less Equal h = absurd h
less Greater h = absurd h

after-later : {K : Type 0} (R : K → K → Ordering) (o : IsTotalOrder R) (at : Option K) (x y : K) → is_after R at x ≡ true → R x y ≡ Less → is_after R at y ≡ true
after-later R o None x y h l = refl
after-later R o (Some a) x y h l = ap is_lt (o.trans a x y (less (R a x) (subst T (sym h) tt)) l)

module _ {K X : Type 0} (R : K → K → Ordering) (o : IsTotalOrder R) where
  -- where a key is left, so are all above it
  all-left : (at : Option K) (x : K) → is_after R at x ≡ true → (es : List (K × X)) → T (below_all R x es) → entries_after R at es ≡ es
  all-left at x h [] below = refl
  all-left at x h (e ∷ es) below =
      rw (after-later R o at x e.0 h (less (R x e.0) (first _ _ below))) (ap (λ rest. e ∷ rest) (all-left at x h es (second _ _ below)))

  above-all : (at : Option K) (x : K) (es : List (K × X)) → T (below_all R x es) → (e : K × X) (rest : List (K × X)) → entries_after R at es ≡ e ∷ rest → R x e.0 ≡ Less
  above-all at x [] below e rest is = cc
  above-all at x (y ∷ es) below e rest is = by_test (is_after R at y.0) is (above-all at x es (second _ _ below) e rest)
    where
      by_test : (b : Bool) → cond b (y ∷ entries_after R at es) (entries_after R at es) ≡ e ∷ rest → (entries_after R at es ≡ e ∷ rest → R x e.0 ≡ Less) → R x e.0 ≡ Less
      by_test true is h = let same : y ≡ e = cc in subst (λ z. R x z.0 ≡ Less) same (less (R x y.0) (first _ _ below))
      by_test false is h = h is

  -- what is left after the entry that a walk showed is the rest
  pub after-next : (at : Option K) (es : List (K × X)) → T (is_sorted R es) → (e : K × X) (rest : List (K × X)) → entries_after R at es ≡ e ∷ rest → entries_after R (Some e.0) es ≡ rest
  after-next at [] rising e rest is = cc
  after-next at (x ∷ es) rising e rest is = by_test (is_after R at x.0) refl is (after-next at es (second _ _ rising) e rest)
    where
      by_test : (b : Bool) → is_after R at x.0 ≡ b → cond b (x ∷ entries_after R at es) (entries_after R at es) ≡ e ∷ rest → (entries_after R at es ≡ e ∷ rest → entries_after R (Some e.0) es ≡ rest) → entries_after R (Some e.0) (x ∷ es) ≡ rest
      by_test true h is again =
          let same : x ≡ e = cc in
          let left : entries_after R at es ≡ rest = cc in
          let below : T (below_all R x.0 es) = first _ _ rising in
          subst (λ z. entries_after R (Some z.0) (x ∷ es) ≡ rest) same (rw (tied_itself o x.0) (all-beyond es below ∙ sym (all-left at x.0 h es below) ∙ left))
        where
          all-beyond : (fs : List (K × X)) → T (below_all R x.0 fs) → entries_after R (Some x.0) fs ≡ fs
          all-beyond [] below = refl
          all-beyond (f ∷ fs) below = rw (less (R x.0 f.0) (first _ _ below)) (ap (λ rest. f ∷ rest) (all-beyond fs (second _ _ below)))
      by_test false h is again = rw (o.antisymm e.0 x.0, above-all at x.0 es (first _ _ rising) e rest is) (again is)
