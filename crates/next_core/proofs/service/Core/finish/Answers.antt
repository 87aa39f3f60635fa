use Rattle.std.proofs.Common.{List, reverse, ap}
use Rattle.next_actor.specs.Standings.{Standing}
use Rattle.next_places.specs.Views.{held}
use Rattle.next_core.specs.Casts.{actors_in}
use Rattle.next_core.specs.Weave.{world_from}
use Rattle.next_core.proofs.Settling.{sound-settled}
use Rattle.next_core.proofs.service.Core.finish.Goals as goal

pub invariant_of-self : goal.invariant_of-self
invariant_of-self c = record { sound = sound-settled c.args.self.places c.settle_all.new.actors.items c.args.self.actors.items c.args.self.order.items c.settle_all.ensures.same c.args.self.sound }

pub invariant_of-self-2 : goal.invariant_of-self-2
invariant_of-self-2 c = record { sound = sound-settled c.args.self.places c.settle_all.new.actors.items c.args.self.actors.items c.args.self.order.items c.settle_all.ensures.same c.args.self.sound }

pub returns-in_default-clause-back : goal.returns-in_default-clause-back
returns-in_default-clause-back c = ap (λ (ss : List Standing). world_from (reverse c.args.self.order.items) (held c.args.self.places) (actors_in ss)) c.settle_all.ensures.same

pub returns-in_default-entries_of-clause-back : goal.returns-in_default-entries_of-clause-back
returns-in_default-entries_of-clause-back c = ap (λ (ss : List Standing). world_from (reverse c.args.self.order.items) (held c.args.self.places) (actors_in ss)) c.settle_all.ensures.same
