use Rattle.std.proofs.Common.{◌∙◌}
use Rattle.next_table.proofs.Walked.{above-here, above-others}
use Rattle.next_table.proofs.walk.above_in.Goals as goal

pub returns-in-Some : goal.returns-in-Some
returns-in-Some g c = above-here c.args.maps.now c.args.dir c.args.after.now c.in-Some.name.now c.in-Some.value.now c.in-Some.ensures

pub returns-in-None : goal.returns-in-None
returns-in-None g c = c.first_in.ensures ∙ above-others c.args.maps.now c.args.dir c.args.after.now c.in-None.ensures
