use Rattle.std.proofs.Common.{◌≡◌, ℕ, Result, Ok, Err}
use Rattle.cfs_grammar.specs.declared.fault.Fault.{Fault}
use Rattle.cfs_setup.specs.declared.script.Script.{Script}
use Rattle.cfs_script.specs.declared.refusal.ScriptRefusal.{ScriptRefusal}
use Rattle.cfs_script.specs.declared.refusal.ScriptRefusal.TheVariants.{Bad}
use Rattle.cfs_script.specs.Outcomes.{Answers as AnswersScript}
use Rattle.cfs_run.proofs.top.replay.Goals as goal

-- where a script is said, no line is refused
no_line : (script : Script) (refusal : ScriptRefusal) (line : ℕ) (other : ℕ × Fault) (fault : Fault) → refusal ≡ Bad line fault → AnswersScript (Err refusal) (Ok script) → ◌≡◌ {A = Result Script (ℕ × Fault)} (Ok script) (Err other)
no_line script refusal line other fault is e = let no : AnswersScript (Err (Bad line fault)) (Ok script) = rw is at e in cc

pub returns-in-Err-Bad-clause-form : goal.returns-in-Err-Bad-clause-form
returns-in-Err-Bad-clause-form g c = λ left script told form.
    no_line script c.in-Err-Bad.field-0 c.in-Err-Bad.line _ c.in-Err-Bad.fault c.in-Err-Bad.field-0-is (c.in-Err-Bad.ensures.form left script told form)
