use Rattle.std.proofs.Common.{◌≡◌, ◌++◌}
use Rattle.std.specs.Prelude.{T}
use Rattle.std.specs.Ordering.{nat_cmp}
use Rattle.std.specs.FinMap.{entries, is_sorted}
use Rattle.next_desk.specs.Entered.{clients, AreClients}
use Rattle.next_desk.proofs.Entered.{IsNext}
use Rattle.next_desk.proofs.clients.set_of.Given as goal

abbrev pub invariant-loop-number : goal.invariant-loop-number
invariant-loop-number l = record {
  whole : l.set ++ clients l.number-iterator ≡ clients (entries l.numbers);
  low : AreClients l.number-iterator;
  sorted : T (is_sorted nat_cmp l.number-iterator);
  next : IsNext l.set l.number-iterator;
}
