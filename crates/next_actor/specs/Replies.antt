-- The replies of a client's commands, by the replies to its calls.
use Rattle.std.specs.Prelude.{ℕ, List, [], ◌∷◌, Option, Some, None}
use Rattle.next_ids.specs.declared.ids.PlaceNo.{PlaceNo}
use Rattle.next_ids.specs.declared.call.Reply.{Reply}
use Rattle.next_steps.specs.declared.entry.Entry.{Entry}
use Rattle.next_steps.specs.Phases.{Phase, Finished}
use Rattle.next_steps.specs.Calls.{heard}
use Rattle.next_rules.specs.Actors.{Doing, Goes}
use Rattle.next_walk.specs.declared.command.Command.{Command}
use Rattle.next_walk.specs.Walks.{course_of, followed}

-- the reply of a command that is answered, and those of the commands after it, which have the replies that are left
abbrev pub told_as : Option Reply × List Reply → (List Reply → List Reply) → List Reply
told_as (Some reply, left) later = reply ∷ later left
told_as (None, left) later = []

-- the replies to which the walks of the commands come, one command after the other
abbrev pub told_from : (tries : ℕ) → List Command → (calls : List Reply) → List Reply
told_from tries [] calls = []
told_from tries (command ∷ commands) calls = told_as (followed (course_of tries command) calls) (told_from tries commands)

-- the reply that a call ends with
abbrev pub reply_at : Phase → List Reply
reply_at (Finished done) = done.reply ∷ []
reply_at phase = []

-- the reply that the entry of the next step brings
abbrev pub reply_by : Doing → PlaceNo → Entry → List Reply
reply_by (Goes phase) place entry = reply_at (heard phase place entry)
reply_by doing place entry = []
