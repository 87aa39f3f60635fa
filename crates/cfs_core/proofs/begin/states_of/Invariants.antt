use Rattle.std.proofs.Common.{◌≡◌, true, take}
use Rattle.std.specs.List.{list_all}
use Rattle.cfs_core.specs.Clients.{works_with}
use Rattle.cfs_core.specs.Opening.{StartsAs}
use Rattle.cfs_core.proofs.begin.states_of.Given as goal

abbrev pub invariant-loop-list : goal.invariant-loop-list
invariant-loop-list l = record {
  starts : StartsAs l.states.items (take l.list-index l.lists);
  alike : list_all (works_with (record { shards = l.fn.shards; stores = l.fn.stores })) l.states.items ≡ true;
}
