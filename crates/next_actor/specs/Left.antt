-- What a client has left to do: its walk, and the commands that wait.
use Rattle.std.specs.Prelude.{ℕ, List, [], ◌∷◌, Bool, true, false, Option, Some, None, is_none}
use Rattle.next_ids.specs.declared.call.Reply.{Reply}
use Rattle.next_rules.specs.Actors.{Plan}
use Rattle.next_walk.specs.declared.command.Command.{Command}
use Rattle.next_walk.specs.declared.walk.Walk.{Walk}
use Rattle.next_walk.specs.Walks.{reply_in, followed}
use Rattle.next_walk.specs.Stages.{course_in}
use Rattle.next_actor.specs.Plans.{followed_by, plan_of}
use Rattle.next_actor.specs.Replies.{told_as, told_from}

abbrev pub plan_left : (tries : ℕ) → Option Walk → List Command → Plan
plan_left tries None commands = plan_of tries commands
plan_left tries (Some walk) commands = followed_by (course_in walk) (plan_of tries commands)

-- the replies of the commands that are left, by those to the calls that are left
abbrev pub told_left : (tries : ℕ) → Option Walk → List Command → (calls : List Reply) → List Reply
told_left tries None commands calls = told_from tries commands calls
told_left tries (Some walk) commands calls = told_as (followed (course_in walk) calls) (told_from tries commands)

-- the walk has made a call that has no reply yet
abbrev pub is_asking : Option Walk → Bool
is_asking None = false
is_asking (Some walk) = is_none (reply_in (course_in walk))

abbrev pub no_commands : List Command → Bool
no_commands [] = true
no_commands (command ∷ commands) = false
