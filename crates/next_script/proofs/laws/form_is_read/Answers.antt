use Rattle.next_script.proofs.FormRead.{script_of-form}
use Rattle.next_script.proofs.laws.form_is_read.Goals as goal

pub returns : goal.returns
returns c = script_of-form
