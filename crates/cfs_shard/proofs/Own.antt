-- A shard has the rows, the records and the locks of its own directories alone.
use Rattle.std.proofs.Common.{◌≡◌, ℕ, ◌<◌, List, Bool, true, false, refl, arith, ◌⊎◌, inl, inr}
use Rattle.std.specs.Prelude.{if◌then◌else◌, ◌==◌, Some}
use Rattle.std.proofs.lemmas.Bool.Decides.{nat_tests}
use Rattle.std.specs.Ordering.{nat_cmp}
use Rattle.std.specs.Cmp.Lexicographic.{slice_cmp}
use Rattle.std.specs.FinMap.{get, empty, get-empty}
use Rattle.cfs_ids.specs.declared.ids.Stamp.{Stamp}
use Rattle.cfs_steps.specs.declared.ask.Ask.{Ask}
use Rattle.cfs_steps.specs.declared.contents.DirRec.{DirRec}
use Rattle.cfs_steps.specs.declared.contents.RowLock.{RowLock}
use Rattle.cfs_steps.specs.Asks.{place_of}
use Rattle.cfs_rules.specs.Homes.{home_of_number, IsOwnShard}
use Rattle.cfs_rules.specs.Places.{Shard, serve_shard, opening_part, opening_shard, empty_shard, root_rec}
use Rattle.cfs_rules.proofs.Gathering.{AgreesShard, shard_serves}
use Rattle.cfs_shard.proofs.Known.{no_row, no_rec, rec_from_insert}

agrees : (index : ℕ) (s : Shard) → IsOwnShard index s → AgreesShard index s s
agrees index s own = record {
  rows = record { own = own.rows; here = λ k at. refl };
  recs = record { own = own.recs; here = λ k at. refl };
  locks = record { own = own.locks; here = λ k at. refl };
}

-- each step keeps that
pub serve-own : (index : ℕ) (s : Shard) (at : Stamp) (ask : Ask) → (place_of ask).0 ≡ index → at.place.0 ≡ index → index < 64 → IsOwnShard index s → IsOwnShard index (serve_shard s at ask).contents
serve-own index s at ask here place small own =
    let serves = shard_serves index s s (agrees index s own) at ask here place small in
    record { rows = serves.rows.own; recs = serves.recs.own; locks = serves.locks.own }

no_lock : (k : List ℕ) (lock : RowLock) → get (empty {X = RowLock} {R = slice_cmp nat_cmp}) k ≡ Some lock → ⊥
no_lock k lock e = let none = get-empty {X = RowLock} (slice_cmp nat_cmp) k in cc

pub opening-own : (index : ℕ) → IsOwnShard index (opening_part index)
opening-own index = by_test (index == 0) refl
  where
    by_case : (d : ℕ) (r : DirRec) → index ≡ 0 → (d ≡ 0) ⊎ (get (empty {X = DirRec} {R = nat_cmp}) d ≡ Some r) → home_of_number d ≡ index
    by_case d r is (inl same) = omega arith
    by_case d r is (inr old) = absurd (no_rec d r old)

    by_test : (b : Bool) → (index == 0) ≡ b → IsOwnShard index (if b then opening_shard else empty_shard)
    by_test true t = let is : index ≡ 0 = grind (arith, nat_tests) in record {
      rows = λ k row e. absurd (no_row k row e);
      recs = λ d r e. by_case d r is (rec_from_insert empty 0 d root_rec r e);
      locks = λ k lock e. absurd (no_lock k lock e);
    }
    by_test false t = record {
      rows = λ k row e. absurd (no_row k row e);
      recs = λ d r e. absurd (no_rec d r e);
      locks = λ k lock e. absurd (no_lock k lock e);
    }
