-- What a client does: the courses of its commands, one after the other.
use Rattle.std.specs.Prelude.{ℕ, List, [], ◌∷◌}
use Rattle.next_rules.specs.Actors.{Plan, Ends, Calls}
use Rattle.next_walk.specs.declared.command.Command.{Command}
use Rattle.next_walk.specs.Walks.{Course, Makes, Answered, course_of}

-- the course, and once it is answered the plan
abbrev pub followed_by : Course → Plan → Plan
followed_by (Makes call next) plan = Calls call (λ reply. followed_by (next reply) plan)
followed_by (Answered reply) plan = plan

-- each call is made up to `tries` times
abbrev pub plan_of : (tries : ℕ) → List Command → Plan
plan_of tries [] = Ends
plan_of tries (command ∷ commands) = followed_by (course_of tries command) (plan_of tries commands)
