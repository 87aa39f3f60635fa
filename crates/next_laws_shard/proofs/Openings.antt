-- A shard as it opens has no rows, locks and debts, and no record but the root's.
use Rattle.std.proofs.Common.{◌≡◌, ℕ, ◌<◌, ◌≤◌, ◌∷◌, length, Bool, true, false, refl, subst, arith, inl, inr}
use Rattle.std.specs.Prelude.{◌==◌, if◌then◌else◌, Option, Some, None}
use Rattle.std.proofs.lemmas.Bool.Decides.{nat_tests}
use Rattle.std.specs.Ordering.{nat_cmp}
use Rattle.std.specs.Cmp.{nat_cmp_total}
use Rattle.std.specs.Cmp.Lexicographic.{slice_cmp}
use Rattle.std.specs.FinMap.{get, insert, empty, get-empty, len-empty, nat_cmp-IsAntisymmetric}
use Rattle.std.specs.declared.cmp.Ordering.{Ordering}
use Rattle.next_steps.specs.declared.contents.DirRec.{DirRec}
use Rattle.next_steps.specs.declared.contents.Row.{Row}
use Rattle.next_steps.specs.declared.contents.RowLock.{RowLock}
use Rattle.next_steps.specs.declared.contents.Debt.{Debt}
use Rattle.next_rules.specs.Contents.{opening_part, opening_shard, empty_shard, root_rec}
use Rattle.next_rules.specs.Facts.{Summed, SumsHold}
use Rattle.next_rules.specs.Homes.{IsOwnShard}
use Rattle.next_laws_shard.specs.Bounds.{IsKnown, IsWithin}
use Rattle.next_laws_shard.proofs.MapChanges.{from_insert, len-set}
use Rattle.next_laws_shard.proofs.Summed.{new_sums}

nothing : {K X : Type 0} (R : K → K → Ordering) (k : K) (x : X) → get (empty {X = X} {R = R}) k ≡ Some x → ⊥
nothing {X = X} R k x e = let none = get-empty {X = X} R k in none_some (get (empty {X = X} {R = R}) k) x none e
  where
    none_some : (o : Option X) (y : X) → o ≡ None → o ≡ Some y → ⊥
    none_some o y n s = cc

-- the only record is the root's
root_only : (d : ℕ) (r : DirRec) → get (insert (empty {X = DirRec} {R = nat_cmp}) 0 root_rec) d ≡ Some r → (d ≡ 0) × (root_rec ≡ r)
root_only d r e = elim (from_insert nat_cmp_total nat_cmp-IsAntisymmetric empty 0 d root_rec r e) [ inl p ↦ p | inr old ↦ absurd (nothing nat_cmp d r old.1) ]

-- ---- the own directories
pub opening-own : (index : ℕ) → index < 64 → IsOwnShard index (opening_part index)
opening-own index small = by_test (index == 0) refl
  where
    by_test : (b : Bool) → (index == 0) ≡ b → IsOwnShard index (if b then opening_shard else empty_shard)
    by_test true e = let zero_index : index ≡ 0 = grind (arith, nat_tests) in record {
      rows = λ k x e. absurd (nothing (slice_cmp nat_cmp) k x e);
      recs = λ d r e. let root = root_only d r e in let at = root.0 in omega arith;
      locks = λ k x e. absurd (nothing (slice_cmp nat_cmp) k x e);
      debts = λ k x e. absurd (nothing (slice_cmp nat_cmp) k x e);
    }
    by_test false e = record {
      rows = λ k x e. absurd (nothing (slice_cmp nat_cmp) k x e);
      recs = λ d r e. absurd (nothing nat_cmp d r e);
      locks = λ k x e. absurd (nothing (slice_cmp nat_cmp) k x e);
      debts = λ k x e. absurd (nothing (slice_cmp nat_cmp) k x e);
    }

-- ---- the numbers of directories
pub opening-known : (index : ℕ) → IsKnown 0 (opening_part index)
opening-known index = by_test (index == 0)
  where
    by_test : (b : Bool) → IsKnown 0 (if b then opening_shard else empty_shard)
    by_test true = record {
      rows = λ d name x e. absurd (nothing (slice_cmp nat_cmp) (d ∷ name) x e);
      recs = λ d r e. let root = root_only d r e in let at = root.0 in omega arith;
      locks = λ d name x e. absurd (nothing (slice_cmp nat_cmp) (d ∷ name) x e);
    }
    by_test false = record {
      rows = λ d name x e. absurd (nothing (slice_cmp nat_cmp) (d ∷ name) x e);
      recs = λ d r e. absurd (nothing nat_cmp d r e);
      locks = λ d name x e. absurd (nothing (slice_cmp nat_cmp) (d ∷ name) x e);
    }

-- ---- the sums
pub opening-sums : (index : ℕ) → SumsHold (opening_part index)
opening-sums index = by_test (index == 0)
  where
    by_test : (b : Bool) → SumsHold (if b then opening_shard else empty_shard)
    by_test true d r e =
        let root = root_only d r e in
        subst (λ (x : DirRec). Summed opening_shard d x) root.1 (new_sums opening_shard d root_rec (λ name. get-empty {X = Row} (slice_cmp nat_cmp) (d ∷ name)) refl refl refl)
    by_test false d r e = absurd (nothing nat_cmp d r e)

-- ---- how much there is
pub opening-within : (index : ℕ) → IsWithin 0 (opening_part index)
opening-within index = by_test (index == 0)
  where
    by_test : (b : Bool) → IsWithin 0 (if b then opening_shard else empty_shard)
    by_test true =
        let rows = len-empty (slice_cmp nat_cmp) Row in
        let locks = len-empty (slice_cmp nat_cmp) RowLock in
        let debts = len-empty (slice_cmp nat_cmp) Debt in
        let none = len-empty nat_cmp DirRec in
        let recs = len-set nat_cmp_total nat_cmp-IsAntisymmetric (empty {X = DirRec} {R = nat_cmp}) 0 root_rec in
        record {
          rows = omega arith;
          recs = omega arith;
          locks = omega arith;
          debts = omega arith;
          pending = λ d r e. let root = root_only d r e in subst (λ (x : DirRec). length x.pending ≤ 0) root.1 (omega arith);
        }
    by_test false =
        let rows = len-empty (slice_cmp nat_cmp) Row in
        let locks = len-empty (slice_cmp nat_cmp) RowLock in
        let debts = len-empty (slice_cmp nat_cmp) Debt in
        let none = len-empty nat_cmp DirRec in
        record {
          rows = omega arith;
          recs = omega arith;
          locks = omega arith;
          debts = omega arith;
          pending = λ d r e. absurd (nothing nat_cmp d r e);
        }
