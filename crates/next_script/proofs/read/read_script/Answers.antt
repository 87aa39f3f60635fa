use Rattle.next_script.specs.Outcomes.{Gives}
use Rattle.next_script.specs.Scripts.{script_of, most_bytes}
use Rattle.next_script.proofs.Told.{Answers-from_form}
use Rattle.next_script.proofs.read.read_script.Goals as goal

pub returns-in-Ok-clause-form : goal.returns-in-Ok-clause-form
unfolding most_bytes
returns-in-Ok-clause-form g c =
    let said : Gives c.script_in.result (script_of c.in-Ok.bytes.items) = rw c.as_slice.ensures.value at c.script_in.ensures in
    Answers-from_form (g.S.Source.left c.args.source.now) (g.S.Source.left c.read_within.new.source) c.in-Ok.bytes.items c.script_in.result c.in-Ok.ensures.bytes said
