-- What a client does: the courses of its commands, one after the other.
use Rattle.std.specs.Prelude.{◌≡◌, ℕ, List, [], ◌∷◌, true}
use Rattle.std.specs.Coded.{Coded-set, coded_bool, ×_prop, Π_prop, Unit-prop}
use Rattle.cfs_ids.specs.declared.call.Reply.{Reply}
use Rattle.cfs_steps.specs.Phases.{has_steps}
use Rattle.cfs_rules.specs.Worlds.{Plan, Ends, Calls}
use Rattle.cfs_walk.specs.declared.command.Command.{Command}
use Rattle.cfs_walk.specs.Walks.{Course, Makes, Answered, course_of}

-- the course, and once it is answered the plan
abbrev pub followed_by : Course → Plan → Plan
followed_by (Makes call next) plan = Calls call (λ reply. followed_by (next reply) plan)
followed_by (Answered reply) plan = plan

-- each call is made up to `tries` times
abbrev pub plan_of : (tries : ℕ) → List Command → Plan
plan_of tries [] = Ends
plan_of tries (command ∷ commands) = followed_by (course_of tries command) (plan_of tries commands)

-- the steps of each call are built, whatever the replies are
abbrev pub HasSteps : Plan → Type 0
HasSteps Ends = Unit {0}
HasSteps (Calls call next) = (has_steps call ≡ true) × ((reply : Reply) → HasSteps (next reply))

-- that they are has one proof at most, so it may be kept with a program
pub HasSteps-prop : (plan : Plan) → IsProp (HasSteps plan)
HasSteps-prop Ends = Unit-prop
HasSteps-prop (Calls call next) = ×_prop (Coded-set coded_bool (has_steps call) true) (Π_prop (λ reply. HasSteps-prop (next reply)))
