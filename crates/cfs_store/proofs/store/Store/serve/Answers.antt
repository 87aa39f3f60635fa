use Rattle.std.proofs.Common.{◌+◌, ◌≤◌, length, refl, sym, subst, ap, arith, length-append}
use Rattle.std.specs.FinMap.{len}
use Rattle.cfs_ids.specs.declared.ids.Stamp.{Stamp}
use Rattle.cfs_rules.specs.Places.{Store}
use Rattle.cfs_rules.specs.Homes.{IsOwnStore}
use Rattle.cfs_store.proofs.Few.{serve-few}
use Rattle.cfs_store.proofs.Own.{serve-own}
use Rattle.cfs_store.proofs.store.Store.serve.Goals as goal

pub invariant_of-self-in-Ok-clause-few : goal.invariant_of-self-in-Ok-clause-few
invariant_of-self-in-Ok-clause-few c =
    let longer : length c.args.self.now.log + 1 ≤ length c.push.new.self = omega (arith, simp length-append at (ap length c.in_ok-push.ensures.ok)) in
    let at : Stamp = record { number = c.number_of.result + 1; place = record { 0 = 64 + c.args.self.now.index } } in
    let before : Store = c.args.self.now.files in
    subst (λ (s : Store). len s ≤ length c.push.new.self) (sym c.in-Ok.ensures.ok)
    (let few = serve-few before at c.args.ask.now in let had = c.args.self.now.few in omega arith)

pub invariant_of-self-in-Ok-clause-own : goal.invariant_of-self-in-Ok-clause-own
invariant_of-self-in-Ok-clause-own c =
    let at : Stamp = record { number = c.number_of.result + 1; place = record { 0 = 64 + c.args.self.now.index } } in
    subst (IsOwnStore c.args.self.now.index) (sym c.in-Ok.ensures.ok) (serve-own c.args.self.now.index c.args.self.now.files at c.args.ask.now c.requires.here refl c.args.self.now.small c.args.self.now.own)
