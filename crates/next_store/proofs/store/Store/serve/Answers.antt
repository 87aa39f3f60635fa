use Rattle.std.proofs.Common.{◌≡◌, ◌∙◌, ◌+◌, ◌≤◌, length, refl, sym, subst, ap, arith, length-append}
use Rattle.std.specs.FinMap.{len}
use Rattle.next_ids.specs.declared.ids.Stamp.{Stamp}
use Rattle.next_rules.specs.Contents.{Store}
use Rattle.next_rules.specs.Homes.{IsOwnStore}
use Rattle.next_rules.specs.Stores.{serve_store}
use Rattle.next_store.proofs.Few.{serve-few}
use Rattle.next_store.proofs.Own.{serve-own}
use Rattle.next_store.proofs.store.Store.serve.Goals as goal

pub invariant_of-self-in-Ok-clause-few : goal.invariant_of-self-in-Ok-clause-few
invariant_of-self-in-Ok-clause-few c =
    let longer : length c.args.self.now.journal.log + 1 ≤ length c.write.new.self.log = omega (arith, simp length-append at (ap length c.in_ok-entry.ensures.log)) in
    let at : Stamp = record { number = c.next_number.result; place = record { 0 = 64 + c.args.self.now.index } } in
    let before : Store = c.args.self.now.files in
    let after : c.make.new.files ≡ (serve_store before at c.args.moment c.args.ask.now).contents = c.in-Ok.ensures.ok ∙ ap (λ s. s.contents) c.in_ok-line.ensures in
    subst (λ (s : Store). len s ≤ length c.write.new.self.log) (sym after)
    (let few = serve-few before at c.args.moment c.args.ask.now in let had = c.args.self.now.few in omega arith)

pub invariant_of-self-in-Ok-clause-own : goal.invariant_of-self-in-Ok-clause-own
invariant_of-self-in-Ok-clause-own c =
    let at : Stamp = record { number = c.next_number.result; place = record { 0 = 64 + c.args.self.now.index } } in
    let before : Store = c.args.self.now.files in
    let after : c.make.new.files ≡ (serve_store before at c.args.moment c.args.ask.now).contents = c.in-Ok.ensures.ok ∙ ap (λ s. s.contents) c.in_ok-line.ensures in
    subst (IsOwnStore c.args.self.now.index) (sym after) (serve-own c.args.self.now.index before at c.args.moment c.args.ask.now c.requires.here refl c.args.self.now.small c.args.self.now.own)
