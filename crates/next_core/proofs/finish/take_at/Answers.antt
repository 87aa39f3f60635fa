use Rattle.std.proofs.Common.{arith}
use Rattle.next_places.specs.Views.{places_of}
use Rattle.next_core.proofs.Remaining.{number_low, place_left}
use Rattle.next_core.proofs.finish.take_at.Goals as goal

pub returns-in-Some-clause-left : goal.returns-in-Some-clause-left
returns-in-Some-clause-left c =
    let low = number_low (places_of c.args.places.now) c.requires.service.all c.args.place.0 c.requires.there in
    place_left (places_of c.args.places.now) c.args.left.now.counts.items c.args.place c.in-Some.found.now c.index_mut-count.result.now c.take_newest.new.left
    c.in-Some.ensures.place (omega (arith, low, c.requires.within.size)) c.index_mut-count.ensures.value c.requires.within.few c.take_newest.result c.take_newest.ensures.rest
