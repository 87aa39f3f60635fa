-- A walk through rows, from key to key.
use Rattle.std.proofs.Common.{◌≡◌, ℕ, ◌+◌, ◌<◌, List, [], ◌∷◌, length, suc, Bool, true, false, refl, ◌∙◌, ap, subst, arith}
use Rattle.std.specs.Prelude.{◌||◌, if◌then◌else◌, Option, Some, None}
use Rattle.std.specs.List.{list_any}
use Rattle.std.specs.Ordering.{nat_cmp}
use Rattle.std.specs.Cmp.Lexicographic.{slice_cmp, nat_list_cmp_total}
use Rattle.std.specs.FinMap.{entries, entries_sorted}
use Rattle.next_ids.specs.Maps.{Names, how_many}
use Rattle.next_maps.specs.Walks.{entries_after, first_of}
use Rattle.next_maps.proofs.Walking.{after-next, after-none}

module _ {X : Type 0} (m : Names X) where
  -- at the start all rows are left
  pub all_rows : entries_after (slice_cmp nat_cmp) None (entries m) ≡ entries m
  all_rows = after-none (slice_cmp nat_cmp) (entries m)

  module _ (at : Option (List ℕ)) where
    abbrev rest : List (List ℕ × X)
    rest = entries_after (slice_cmp nat_cmp) at (entries m)

    pub row_next : (e : List ℕ × X) → Some e ≡ first_of rest → rest ≡ e ∷ entries_after (slice_cmp nat_cmp) (Some e.0) (entries m)
    row_next e first = by_list rest refl first
      where
        by_list : (left : List (List ℕ × X)) → rest ≡ left → Some e ≡ first_of left → rest ≡ e ∷ entries_after (slice_cmp nat_cmp) (Some e.0) (entries m)
        by_list [] is first = cc
        by_list (f ∷ left) is first =
            let same : f ≡ e = cc in
            let behind : entries_after (slice_cmp nat_cmp) (Some f.0) (entries m) ≡ left = after-next (slice_cmp nat_cmp) nat_list_cmp_total at (entries m) (entries_sorted m) f left is in
            subst (λ z. rest ≡ z ∷ entries_after (slice_cmp nat_cmp) (Some z.0) (entries m)) same (rw behind is)

    pub none_left : None ≡ first_of rest → rest ≡ []
    none_left none = by_list rest refl none
      where
        by_list : (left : List (List ℕ × X)) → rest ≡ left → None ≡ first_of left → rest ≡ []
        by_list [] is none = is
        by_list (f ∷ left) is none = cc

    pub fewer_rows : (e : List ℕ × X) → Some e ≡ first_of rest → length (entries_after (slice_cmp nat_cmp) (Some e.0) (entries m)) < length rest
    fewer_rows e first = let next = ap length (row_next e first) in omega arith

    pub many_next : (p : List ℕ × X → Bool) (e : List ℕ × X) → Some e ≡ first_of rest → how_many p rest ≡ (if p e then 1 + how_many p (entries_after (slice_cmp nat_cmp) (Some e.0) (entries m)) else how_many p (entries_after (slice_cmp nat_cmp) (Some e.0) (entries m)))
    many_next p e first = ap (how_many p) (row_next e first) ∙ by_test (p e)
      where
        by_test : (b : Bool) → (if b then suc (how_many p (entries_after (slice_cmp nat_cmp) (Some e.0) (entries m))) else how_many p (entries_after (slice_cmp nat_cmp) (Some e.0) (entries m)))
            ≡ (if b then 1 + how_many p (entries_after (slice_cmp nat_cmp) (Some e.0) (entries m)) else how_many p (entries_after (slice_cmp nat_cmp) (Some e.0) (entries m)))
        by_test true = omega arith
        by_test false = refl

    pub any_next : (p : List ℕ × X → Bool) (e : List ℕ × X) → Some e ≡ first_of rest → list_any p rest ≡ (p e || list_any p (entries_after (slice_cmp nat_cmp) (Some e.0) (entries m)))
    any_next p e first = ap (list_any p) (row_next e first)

-- a row is taken from the count where it is one that counts
pub row_taken : (b counts : Bool) → counts ≡ b → (left left' count total rest rest' : ℕ) → left + total ≡ count + rest → rest ≡ (if b then 1 + rest' else rest') → left' + (if counts then 1 else 0) ≡ left → left' + total ≡ count + rest'
row_taken true true same left left' count total rest rest' so_far passed taken = omega arith
row_taken false false same left left' count total rest rest' so_far passed taken = omega arith
row_taken true false same left left' count total rest rest' so_far passed taken = cc
row_taken false true same left left' count total rest rest' so_far passed taken = cc

-- a row that fails is passed by
pub passed_by : (b rest : Bool) → b ≡ false → (b || rest) ≡ rest
passed_by true rest h = cc
passed_by false rest h = refl
