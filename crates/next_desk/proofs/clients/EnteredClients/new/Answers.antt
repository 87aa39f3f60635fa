use Rattle.std.proofs.Common.{◌∙◌, sym, ap, subst}
use Rattle.std.specs.Ordering.{nat_cmp}
use Rattle.std.specs.FinMap.{entries}
use Rattle.next_ids.proofs.Entries.{entries-empty}
use Rattle.next_desk.specs.Entered.{clients, AreClients}
use Rattle.next_desk.proofs.clients.EnteredClients.new.Goals as goal

pub invariant_of-result : goal.invariant_of-result
invariant_of-result c = subst AreClients (sym (ap entries c.new.ensures ∙ entries-empty nat_cmp)) tt

pub returns : goal.returns
returns c = ap clients (ap entries c.new.ensures ∙ entries-empty nat_cmp)
