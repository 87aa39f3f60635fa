use Rattle.std.proofs.Common.{subst, arith}
use Rattle.next_places.specs.Views.{places_of}
use Rattle.next_core.proofs.Remaining.{AreCounted, all_left}
use Rattle.next_core.proofs.finish.counted.Goals as goal

pub returns-clause-whole : goal.returns-clause-whole
returns-clause-whole c =
    let all : AreCounted (places_of c.args.places.now) c.loop-number.counts.items 130 = subst (AreCounted (places_of c.args.places.now) c.loop-number.counts.items) (omega (arith, c.loop-number-test.false, c.loop-number.auto.number-end)) c.loop-number.invariant in
    λ j n. all_left (places_of c.args.places.now) c.requires.all c.loop-number.counts.items all n j
