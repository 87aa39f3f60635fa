use Rattle.next_laws_calls.proofs.Runs.{right_ledger}
use Rattle.next_laws_calls.proofs.the_ledger_is_right.Goals as goal

pub returns : goal.returns
returns c = right_ledger
