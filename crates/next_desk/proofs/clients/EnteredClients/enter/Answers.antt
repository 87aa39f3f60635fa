use Rattle.std.proofs.Common.{◌∙◌, ℕ, sym, ap, subst}
use Rattle.std.specs.Ordering.{nat_cmp}
use Rattle.std.specs.Cmp.{nat_cmp_total}
use Rattle.std.specs.FinMap.{entries, entries-insert, put}
use Rattle.next_steps.specs.ClientSets as sets
use Rattle.next_desk.specs.Entered.{clients, AreClients}
use Rattle.next_desk.proofs.Entered.{enter-put, put-clients}
use Rattle.next_desk.proofs.clients.EnteredClients.enter.Goals as goal

pub invariant_of-self-2 : goal.invariant_of-self-2
invariant_of-self-2 c =
    subst AreClients (sym (ap entries c.in_ok-set_number.ensures.ok ∙ entries-insert nat_cmp_total c.self.inside.numbers c.key_of.result tt)) (put-clients c.key_of.result (entries c.self.inside.numbers) c.key_of.ensures.low c.self.invariant)

pub returns-clause-ok : goal.returns-clause-ok
returns-clause-ok c =
    ap clients (ap entries c.in_ok-set_number.ensures.ok ∙ entries-insert nat_cmp_total c.self.inside.numbers c.key_of.result tt ∙ ap (λ (n : ℕ). put nat_cmp n tt (entries c.self.inside.numbers)) c.key_of.ensures.same)
    ∙ enter-put c.args.client (entries c.self.inside.numbers) ∙ ap (λ cs. sets.entered cs c.args.client) c.self.view_is
