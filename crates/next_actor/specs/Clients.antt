-- What the state of a client shows.
use Rattle.std.specs.Prelude.{List, ◌++◌, Bool, ◌&&◌, is_none}
use Rattle.next_ids.specs.declared.ids.Client.{Client}
use Rattle.next_ids.specs.declared.counts.Counts.{Counts}
use Rattle.next_ids.specs.declared.call.Reply.{Reply}
use Rattle.next_rules.specs.Actors.{Progress}
use Rattle.next_actor.specs.Programs.{plan_in, told_in}
use Rattle.next_actor.specs.States.{with_kept, reply_kept, worked_in, is_ready}
use Rattle.next_actor.specs.declared.client_state.ClientState.{ClientState}

abbrev pub client_of : ClientState → Client
client_of state = state.client

-- how many shards and stores it works with
abbrev pub counts_of : ClientState → Counts
counts_of state = state.counts

-- the progress in which the kept entry has been heard
abbrev pub progress_of : ClientState → Progress
progress_of state = with_kept state.kept
    (worked_in state.current (plan_in state.program) state.stop state.steps state.ended state.last state.puts state.done.items)

-- the replies of all its commands, by those to the calls that are left, the kept entry heard
abbrev pub told_of : ClientState → List Reply → List Reply
told_of state = λ calls. told_in state.program (reply_kept state.kept state.current ++ calls)

-- no entry is kept, and a call is on its way or nothing is left to do
abbrev pub is_settled : ClientState → Bool
is_settled state = is_none state.kept && is_ready state.current state.program
