use Rattle.std.proofs.Common.{◌≤◌, length, sym, subst, arith}
use Rattle.std.specs.Ordering.{nat_cmp}
use Rattle.std.specs.FinMap.{len, len-empty}
use Rattle.next_steps.specs.declared.contents.FileRec.{FileRec}
use Rattle.next_rules.specs.Homes.{IsOwnStore}
use Rattle.next_rules.specs.Contents.{Store}
use Rattle.next_store.proofs.Own.{empty-own}
use Rattle.next_store.proofs.store.Store.new.Goals as goal

pub invariant_of-result-clause-few : goal.invariant_of-result-clause-few
invariant_of-result-clause-few c = let none = len-empty nat_cmp FileRec in subst (λ (s : Store). len s ≤ length c.new-2.result.log) (sym c.new.ensures) (omega arith)

pub invariant_of-result-clause-own : goal.invariant_of-result-clause-own
invariant_of-result-clause-own c = subst (IsOwnStore c.args.index) (sym c.new.ensures) (empty-own c.args.index)
