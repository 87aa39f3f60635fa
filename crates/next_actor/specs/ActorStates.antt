-- What the state of an actor shows.
use Rattle.std.specs.Prelude.{Bool}
use Rattle.next_actor.specs.declared.actor_state.ActorState.{ActorState}
use Rattle.next_actor.specs.declared.actor_state.ActorState.TheVariants.{Client, Renamer, Collector}
use Rattle.next_actor.specs.Clients as clients
use Rattle.next_actor.specs.Jobs as jobs
use Rattle.next_actor.specs.Rounds as rounds
use Rattle.next_actor.specs.Standings.{Standing, OfClient, OfRenamer, OfCollector}

-- where it stands, the kept entry heard
abbrev pub standing_of : ActorState → Standing
standing_of (Client state) = OfClient (clients.counts_of state) (clients.client_of state) (clients.progress_of state)
standing_of (Renamer state) = OfRenamer (jobs.phase_of state) (jobs.last_of state)
standing_of (Collector state) = OfCollector (rounds.counts_of state) (rounds.phase_of state) (rounds.last_of state)

abbrev pub is_settled : ActorState → Bool
is_settled (Client state) = clients.is_settled state
is_settled (Renamer state) = jobs.is_settled state
is_settled (Collector state) = rounds.is_settled state
