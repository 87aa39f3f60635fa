use Rattle.std.proofs.Common.{◌<◌, ap, ◌∙◌, length, arith}
use Rattle.std.proofs.lemmas.List.{length-map}
use Rattle.next_actor.specs.ActorStates.{standing_of}
use Rattle.next_core.proofs.Settling.{standings-set, settled-more}
use Rattle.next_core.proofs.finish.settle_all.Goals as goal

pub returns-in_err-settle-clause-same : goal.returns-in_err-settle-clause-same
returns-in_err-settle-clause-same c =
    standings-set c.loop-i.actors.items c.loop-i.i c.index_mut.result.now c.settle.new.self c.index_mut.ensures.value c.settle.ensures.standing ∙ c.loop-i.invariant.same

pub loop-i-preserved : goal.loop-i-preserved
loop-i-preserved c =
    let before = length-map c.loop-i.actors.items standing_of in
    let whole = length-map c.args.actors.now.items standing_of in
    let same = ap length c.loop-i.invariant.same in
    let within : c.loop-i.i < length c.loop-i.actors.items = omega (arith, c.loop-i-test.true, c.len-i-end.ensures, before, whole, same) in
    record {
      same = standings-set c.loop-i.actors.items c.loop-i.i c.index_mut.result.now c.settle.new.self c.index_mut.ensures.value c.settle.ensures.standing ∙ c.loop-i.invariant.same;
      settled = settled-more c.loop-i.actors.items c.loop-i.i c.settle.new.self within c.loop-i.invariant.settled c.in_ok-settle.ensures.settled;
    }
