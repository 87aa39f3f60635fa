use Rattle.next_print.proofs.Passed.{AddsFront-next}
use Rattle.next_print.specs.Texts.{run_lines}
use Rattle.next_print.proofs.write.put_run.Goals as goal

-- the commands and a front of the history
pub returns-clause-front : goal.returns-clause-front
unfolding run_lines
returns-clause-front g c = AddsFront-next _ _ _ _ _ _ _ (rw c.as_slice.ensures at c.in_ok-put_commands.ensures.ok) (rw c.as_slice-2.ensures at c.put_history.ensures.front)
