use Rattle.std.proofs.Common.{◌+◌, ◌≤◌, length, refl, sym, ◌∙◌, subst, arith}
use Rattle.std.specs.FinMap.{len}
use Rattle.cfs_rules.specs.Homes.{IsOwnShard}
use Rattle.cfs_rules.specs.Places.{Shard, opening_part}
use Rattle.cfs_shard.specs.Bounds.{CountsWithin, IsKnown}
use Rattle.cfs_shard.proofs.Known.{opening-known}
use Rattle.cfs_shard.proofs.Locking.{no_locks}
use Rattle.cfs_shard.proofs.Own.{opening-own}
use Rattle.cfs_shard.proofs.Within.{raised, opening-within, opening-few}
use Rattle.cfs_shard.proofs.shard.Shard.new.Goals as goal

pub invariant_of-result-clause-counts : goal.invariant_of-result-clause-counts
invariant_of-result-clause-counts c =
    subst (λ (s : Shard). CountsWithin (length c.new-2.result) s) (sym c.in_ok-table.ensures.table) (raised 0 (length c.new-2.result) (opening_part c.args.index) (omega arith) (opening-within c.args.index))

pub invariant_of-result-clause-few : goal.invariant_of-result-clause-few
invariant_of-result-clause-few c = subst (λ (s : Shard). len s.recs ≤ length c.new-2.result + 1) (sym c.in_ok-table.ensures.table) (let few = opening-few c.args.index in omega arith)

pub invariant_of-result-clause-own : goal.invariant_of-result-clause-own
invariant_of-result-clause-own c = subst (IsOwnShard c.args.index) (sym (no_locks _ c.new.result refl c.new.ensures ∙ c.in_ok-table.ensures.table)) (opening-own c.args.index)

pub invariant_of-result-clause-known : goal.invariant_of-result-clause-known
invariant_of-result-clause-known c = subst (IsKnown 0) (sym (no_locks _ c.new.result refl c.new.ensures ∙ c.in_ok-table.ensures.table)) (opening-known c.args.index)

pub returns-clause-contents : goal.returns-clause-contents
returns-clause-contents c = no_locks _ c.new.result refl c.new.ensures ∙ c.in_ok-table.ensures.table
