use Rattle.next_script.proofs.OneBreak.{script_of-refused}
use Rattle.next_script.proofs.laws.first_break_is_told.Goals as goal

pub returns : goal.returns
returns c = script_of-refused
