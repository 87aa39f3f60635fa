-- What a program shows.
use Rattle.std.specs.Prelude.{◌≡◌, List, ◌++◌, Bool, ◌&&◌, IsTrue, Some, is_none}
use Rattle.next_ids.specs.declared.call.Call.{Call}
use Rattle.next_ids.specs.declared.call.Reply.{Reply}
use Rattle.next_steps.specs.Phases.{Asking}
use Rattle.next_rules.specs.Actors.{Plan, first_of}
use Rattle.next_actor.specs.Left.{plan_left, told_left, is_asking, no_commands}
use Rattle.next_actor.specs.declared.program.Program.{Program}

-- the plan that is left
abbrev pub plan_in : Program → Plan
plan_in program = plan_left program.tries program.walk program.waiting

-- the replies of all its commands, by those to the calls that are left
abbrev pub told_in : Program → List Reply → List Reply
told_in program = λ calls. program.replies ++ told_left program.tries program.walk program.waiting calls

-- the walk of its command waits for a reply
abbrev pub waits : Program → Bool
waits program = is_asking program.walk

-- nothing is left to do
abbrev pub is_over : Program → Bool
is_over program = is_none program.walk && no_commands program.waiting

-- the program waits for the reply to this call
pub record WaitsFor (program : Program) (call : Call) : Type 0 where
  pub first : first_of (plan_in program) ≡ Some (Asking call)
  pub asked : IsTrue (waits program)
