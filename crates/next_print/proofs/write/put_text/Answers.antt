use Rattle.next_print.proofs.Passed.{AddsFront-first, AddsFront-next}
use Rattle.next_print.specs.Texts.{text}
use Rattle.next_print.proofs.write.put_text.Goals as goal

-- the first lines and a front of the run's
pub returns-in_err-put_run-clause-front : goal.returns-in_err-put_run-clause-front
unfolding text
returns-in_err-put_run-clause-front g c = AddsFront-next _ _ _ _ _ _ _ c.in_ok-put_head.ensures.ok (AddsFront-first _ _ _ _ _ c.in_err-put_run.ensures.front)

-- the run's too, and a front of the namespace's
pub returns-in_err-put_namespace-clause-front : goal.returns-in_err-put_namespace-clause-front
unfolding text
returns-in_err-put_namespace-clause-front g c = AddsFront-next _ _ _ _ _ _ _ c.in_ok-put_head.ensures.ok (AddsFront-next _ _ _ _ _ _ _ c.in_ok-put_run.ensures.ok (AddsFront-first _ _ _ _ _ c.in_err-put_namespace.ensures.front))

-- these too, and a front of the counts
pub returns-clause-front : goal.returns-clause-front
unfolding text
returns-clause-front g c = AddsFront-next _ _ _ _ _ _ _ c.in_ok-put_head.ensures.ok (AddsFront-next _ _ _ _ _ _ _ c.in_ok-put_run.ensures.ok (AddsFront-next _ _ _ _ _ _ _ c.in_ok-put_namespace.ensures.ok (rw c.summary_of.ensures at c.put_summary.ensures.front)))
