-- What a program shows.
use Rattle.std.specs.Prelude.{◌≡◌, Bool, true, ◌&&◌, IsTrue, Some, is_none}
use Rattle.cfs_ids.specs.declared.call.Call.{Call}
use Rattle.cfs_steps.specs.Phases.{Asking, has_steps}
use Rattle.cfs_rules.specs.Worlds.{Plan, first_of}
use Rattle.cfs_actor.specs.Left.{plan_left, is_asking, no_commands}
use Rattle.cfs_actor.specs.declared.program.Program.{Program}

-- the plan that is left
abbrev pub plan_in : Program → Plan
plan_in program = plan_left program.tries program.walk program.waiting

-- the walk of its command waits for a reply
abbrev pub waits : Program → Bool
waits program = is_asking program.walk

-- nothing is left to do
abbrev pub is_over : Program → Bool
is_over program = is_none program.walk && no_commands program.waiting

-- the program waits for the reply to this call, whose steps are built
pub record WaitsFor (program : Program) (call : Call) : Type 0 where
  pub first : first_of (plan_in program) ≡ Some (Asking call)
  pub built : has_steps call ≡ true
  pub asked : IsTrue (waits program)
