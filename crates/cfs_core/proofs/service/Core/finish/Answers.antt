use Rattle.std.proofs.Common.{ℕ, reverse, ap, ◌∙◌, refl}
use Rattle.cfs_rules.specs.Worlds.{Progress}
use Rattle.cfs_view.specs.Views.{held}
use Rattle.cfs_core.specs.Weave.{world_from}
use Rattle.cfs_core.proofs.Members.{calls-by-number}
use Rattle.cfs_core.proofs.Settled.{sound-settled}
use Rattle.cfs_core.proofs.Shown.{members_of-shown, progress_in-shown}
use Rattle.cfs_core.proofs.service.Core.finish.Goals as goal

pub invariant_of-self : goal.invariant_of-self
invariant_of-self c = record { sound = sound-settled c.args.self.places c.calls_of_all.new.clients.items c.args.self.clients.items c.args.self.order.items c.calls_of_all.ensures.same c.calls_of_all.ensures.counts c.args.self.sound }

pub returns-in_default-clause-back : goal.returns-in_default-clause-back
returns-in_default-clause-back c = ap (λ (cs : ℕ → Progress). world_from (reverse c.args.self.order.items) (held c.args.self.places) cs)
    (progress_in-shown c.calls_of_all.new.clients.items c.args.self.clients.items c.calls_of_all.ensures.same)

pub returns-in_default-clause-members : goal.returns-in_default-clause-members
returns-in_default-clause-members c = members_of-shown c.calls_of_all.new.clients.items c.args.self.clients.items c.calls_of_all.ensures.same

pub invariant_of-self-2 : goal.invariant_of-self-2
invariant_of-self-2 c = record { sound = sound-settled c.args.self.places c.calls_of_all.new.clients.items c.args.self.clients.items c.args.self.order.items c.calls_of_all.ensures.same c.calls_of_all.ensures.counts c.args.self.sound }

pub returns-in_default-entries_of-clause-back : goal.returns-in_default-entries_of-clause-back
returns-in_default-entries_of-clause-back c = ap (λ (cs : ℕ → Progress). world_from (reverse c.args.self.order.items) (held c.args.self.places) cs)
    (progress_in-shown c.calls_of_all.new.clients.items c.args.self.clients.items c.calls_of_all.ensures.same)

pub returns-in_default-entries_of-clause-members : goal.returns-in_default-entries_of-clause-members
returns-in_default-entries_of-clause-members c = members_of-shown c.calls_of_all.new.clients.items c.args.self.clients.items c.calls_of_all.ensures.same

pub returns-clause-run : goal.returns-clause-run
returns-clause-run c = record {
  entries = rw c.as_slice.ensures.value at c.in-Ok-entries_of.ensures;
  shard = refl;
  store = refl;
  service = c.args.self.sound.service;
  roster = refl;
  calls = λ rising. c.in-Ok.ensures.calls ∙ calls-by-number c.args.self.clients.items rising;
}
