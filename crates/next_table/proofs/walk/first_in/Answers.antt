use Rattle.std.proofs.Common.{◌∙◌, ap}
use Rattle.next_maps.specs.Walks.{first_of}
use Rattle.next_table.proofs.Walked.{next-smaller, next-passed, next-shown}
use Rattle.next_table.proofs.walk.first_in.Goals as goal

pub loop-dir-preserved : goal.loop-dir-preserved
loop-dir-preserved g c =
    next-passed c.args.maps.now c.loop-dir.at c.in-Some.dir c.in-Some.names.now c.in-Some.ensures c.in_default-next.ensures ∙ c.loop-dir.invariant

pub loop-dir-smaller : goal.loop-dir-smaller
loop-dir-smaller g c = next-smaller c.args.maps.now c.loop-dir.at c.in-Some.dir c.in-Some.names.now c.in-Some.ensures

pub returns-in-Some-next : goal.returns-in-Some-next
returns-in-Some-next g c =
    next-shown c.args.maps.now c.loop-dir.at c.in-Some.dir c.in-Some.names.now c.in-Some-next.name.now c.in-Some-next.value.now c.in-Some.ensures c.in-Some-next.ensures
    ∙ ap first_of c.loop-dir.invariant
