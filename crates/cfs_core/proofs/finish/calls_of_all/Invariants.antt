use Rattle.std.proofs.Common.{◌≡◌, map, take}
use Rattle.cfs_actor.specs.Clients.{counts_of}
use Rattle.cfs_core.specs.Ends.{calls_of_states}
use Rattle.cfs_core.specs.Opening.{shown}
use Rattle.cfs_core.proofs.finish.calls_of_all.Given as goal

abbrev pub invariant-loop-i : goal.invariant-loop-i
invariant-loop-i l = record {
  same : map shown l.clients.items ≡ map shown l.fn.clients.items;
  counts : map counts_of l.clients.items ≡ map counts_of l.fn.clients.items;
  so_far : l.calls.items ≡ calls_of_states (take l.i l.fn.clients.items);
}
