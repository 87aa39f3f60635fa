use Rattle.std.proofs.Common.{◌≡◌, drop}
use Rattle.next_steps.specs.ClientSets as sets
use Rattle.next_steps.proofs.clients.holds.Given as goal

abbrev pub invariant-loop-i : goal.invariant-loop-i
invariant-loop-i l = sets.holds l.clients l.client ≡ sets.holds (drop l.i l.clients) l.client
