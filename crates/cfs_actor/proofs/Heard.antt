-- An entry with an answer for the current call may be kept.
use Rattle.std.proofs.Common.{◌≡◌, ℕ, Bool, true, arith}
use Rattle.std.specs.Prelude.{not, ◌==◌, ◌&&◌, Option, Some, None, is_none, is_some}
use Rattle.std.proofs.lemmas.Bool.{or_right}
use Rattle.std.proofs.lemmas.Bool.Decides.{nat_tests}
use Rattle.cfs_steps.specs.Phases.{is_going, answers}
use Rattle.cfs_steps.specs.declared.answer.Answer.{Answer}
use Rattle.cfs_rules.specs.Worlds.{Plan, Progress}
use Rattle.cfs_actor.specs.declared.kept.KeptEntry.{KeptEntry}
use Rattle.cfs_actor.specs.declared.call_machine.CallMachine.{CallMachine}
use Rattle.cfs_actor.specs.CallMachines.{phase_in}
use Rattle.cfs_actor.specs.States.{current_in, fits, answers_now, with_kept}

pub fits-heard : (kept : KeptEntry) (current : Option CallMachine) (plan : Plan) → is_some current ≡ true → answers_now (current_in current plan) kept.entry.answer ≡ true → fits (Some kept) current ≡ true
fits-heard kept None plan some h = cc
fits-heard kept (Some machine) plan some h = or_right (not (is_going (phase_in machine))) (answers (phase_in machine) kept.entry.answer) h

pub same-number : (n : ℕ) → (n == n) ≡ true
same-number n = grind (arith, nat_tests)

-- with no entry kept the progress is what is worked in
pub answers-settled : (kept : Option KeptEntry) (p : Progress) (answer : Answer) (ready : Bool) → (is_none kept && ready) ≡ true → answers_now (with_kept kept p).current answer ≡ true → answers_now p.current answer ≡ true
answers-settled None p answer ready none h = h
answers-settled (Some k) p answer ready none h = cc
