-- The replies to the commands of a script, by the replies to their calls.
use Rattle.std.specs.Prelude.{ℕ, ◌+◌, List, [], ◌∷◌, ◌++◌, map, Bool, true, false, Option, Some, None, is_some}
use Rattle.std.specs.List.{list_all}
use Rattle.cfs_ids.specs.declared.ids.Client.{Client}
use Rattle.cfs_ids.specs.declared.call.Reply.{Reply}
use Rattle.cfs_steps.specs.declared.call_done.CallDone.{CallDone}
use Rattle.cfs_steps.specs.declared.call_done.ClientCalls.{ClientCalls}
use Rattle.cfs_walk.specs.declared.command.Command.{Command}
use Rattle.cfs_walk.specs.Commands.{is_in_form}
use Rattle.cfs_walk.specs.Walks.{course_of, followed}
use Rattle.cfs_core.specs.Opening.{tries}
use Rattle.cfs_print.specs.declared.commands.CommandReply.{CommandReply}

abbrev pub replies_in : List CallDone → List Reply
replies_in calls = map (λ (done : CallDone). done.reply) calls

-- whether the next command has made a step: a call of it has ended, or has begun
abbrev pub has_stepped : List Reply → (begun : Bool) → Bool
has_stepped [] begun = begun
has_stepped (reply ∷ replies) begun = true

-- a command that isn't answered has a line where it has made a step
abbrev pub open_line : Client → (number : ℕ) → (stepped : Bool) → List CommandReply
open_line client number true = record { client = client; number = number; reply = None } ∷ []
open_line client number false = []

-- a command by what its course comes to: where it is answered, its line, and those of the commands after it, which have
-- the replies that are left; else it is the last
abbrev pub told_as : Client → (number : ℕ) → (stepped : Bool) → Option Reply × List Reply → (List Reply → List CommandReply) → List CommandReply
told_as client number stepped (Some reply, left) later = record { client = client; number = number; reply = Some reply } ∷ later left
told_as client number stepped (None, left) later = open_line client number stepped

-- the commands of a client, from this number on, by the replies to its calls
abbrev pub told_from : Client → (number : ℕ) → List Command → List Reply → (begun : Bool) → List CommandReply
told_from client number [] replies begun = []
told_from client number (command ∷ commands) replies begun = told_as client number (has_stepped replies begun) (followed (course_of tries command) replies) (λ left. told_from client (number + 1) commands left begun)

abbrev pub replies_of_client : Client × List Command → ClientCalls → List CommandReply
replies_of_client list calls = told_from list.0 1 list.1 (replies_in calls.done) (is_some calls.begun)

-- each command of the client is in form
abbrev pub are_in_form : Client × List Command → Bool
are_in_form list = list_all is_in_form list.1

-- client by client, and each client's commands by their numbers, from 1
abbrev pub replies_of : List (Client × List Command) → List ClientCalls → List CommandReply
replies_of [] calls = []
replies_of (list ∷ lists) [] = []
replies_of (list ∷ lists) (calls ∷ more) = replies_of_client list calls ++ replies_of lists more
