-- What the state of a client shows.
use Rattle.std.specs.Prelude.{Bool, ◌&&◌, is_none}
use Rattle.cfs_ids.specs.declared.ids.Client.{Client}
use Rattle.cfs_rules.specs.Worlds.{Progress, Counts}
use Rattle.cfs_actor.specs.Programs.{plan_in}
use Rattle.cfs_actor.specs.States.{counts, with_kept, worked_in, is_ready}
use Rattle.cfs_actor.specs.declared.client_state.ClientState.{ClientState}

abbrev pub client_of : ClientState → Client
client_of state = state.client

-- how many shards and stores it works with
abbrev pub counts_of : ClientState → Counts
counts_of state = counts state.shards state.stores

-- the progress in which the kept entry has been heard
abbrev pub progress_of : ClientState → Progress
progress_of state = with_kept state.kept (worked_in state.current (plan_in state.program) state.ended state.last state.puts state.done.items)

-- no entry is kept, and a call is on its way or nothing is left to do
abbrev pub is_settled : ClientState → Bool
is_settled state = is_none state.kept && is_ready state.current state.program
