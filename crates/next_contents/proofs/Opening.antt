-- What a shard opens with.
use Rattle.std.proofs.Common.{◌≡◌, ℕ, Bool, true, false}
use Rattle.std.specs.Prelude.{◌==◌, if◌then◌else◌}
use Rattle.std.specs.FinMap.{empty}
use Rattle.next_rules.specs.Contents.{Shard, opening_part, opening_shard, empty_shard}

-- the record of the root at most
pub opens : (index : ℕ) (s : Shard) → s.rows ≡ empty → s.recs ≡ (opening_part index).recs → s.locks ≡ empty → s.debts ≡ empty → s ≡ opening_part index
opens index s rows recs locks debts = by_test (index == 0) recs
  where
    by_test : (b : Bool) → s.recs ≡ (if b then opening_shard else empty_shard).recs → s ≡ (if b then opening_shard else empty_shard)
    by_test true recs = λ i. record { rows = rows i; recs = recs i; locks = locks i; debts = debts i }
    by_test false recs = λ i. record { rows = rows i; recs = recs i; locks = locks i; debts = debts i }
