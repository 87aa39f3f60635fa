use Rattle.std.proofs.Common.{◌≡◌, true, take}
use Rattle.std.specs.List.{list_all}
use Rattle.next_actor.specs.ActorStates.{is_settled}
use Rattle.next_core.specs.Casts.{standings}
use Rattle.next_core.proofs.finish.settle_all.Given as goal

abbrev pub invariant-loop-i : goal.invariant-loop-i
invariant-loop-i l = record {
  same : standings l.actors.items ≡ standings l.fn.actors.items;
  settled : list_all is_settled (take l.i l.actors.items) ≡ true;
}
