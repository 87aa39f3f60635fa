-- The actors of a core, each where it is, as the world sees them.
use Rattle.std.specs.Prelude.{ℕ, List, [], ◌∷◌, map, ◌==◌, ◌&&◌, Bool, true, false, None, if◌then◌else◌}
use Rattle.std.specs.List.{list_any}
use Rattle.next_ids.specs.declared.ids.Actor.{Actor}
use Rattle.next_ids.specs.declared.ids.Actor.TheVariants.{Client as ClientActor, Renamer, Collector}
use Rattle.next_ids.specs.declared.counts.Counts.{Counts}
use Rattle.next_steps.specs.JobPhases.{JobPhase, Waiting}
use Rattle.next_steps.specs.Rounds.{RoundPhase, Starting}
use Rattle.next_rules.specs.Actors.{Ends, Progress, Actors, starts}
use Rattle.next_actor.specs.Standings.{Standing, OfClient, OfRenamer, OfCollector, actor_of}
use Rattle.next_actor.specs.ActorStates.{standing_of}
use Rattle.next_actor.specs.declared.actor_state.ActorState.{ActorState}

abbrev pub standings : List ActorState → List Standing
standings states = map standing_of states

-- whether two actors are the same
abbrev pub is_same : Actor → Actor → Bool
is_same (ClientActor c) (ClientActor d) = c.0 == d.0
is_same Renamer Renamer = true
is_same Collector Collector = true
is_same a b = false

abbrev pub is_of : Actor → Standing → Bool
is_of actor s = is_same (actor_of s) actor

-- whether the actor is among these
abbrev pub is_member : List Standing → Actor → Bool
is_member ss actor = list_any (is_of actor) ss

abbrev pub no_counts : Counts
no_counts = record { shards = 0; stores = 0 }

-- an actor that is not among them does nothing
abbrev pub absent : Actor → Standing
absent (ClientActor c) = OfClient no_counts c (starts Ends None)
absent Renamer = OfRenamer Waiting 0
absent Collector = OfCollector no_counts Starting 0

-- where the actor is
abbrev pub standing_at : List Standing → Actor → Standing
standing_at [] actor = absent actor
standing_at (s ∷ ss) actor = if is_of actor s then s else standing_at ss actor

abbrev pub progress_in : Standing → Progress
progress_in (OfClient counts c p) = p
progress_in s = starts Ends None

abbrev pub job_in : Standing → JobPhase × ℕ
job_in (OfRenamer phase last) = (phase, last)
job_in s = (Waiting, 0)

abbrev pub round_in : Standing → RoundPhase × ℕ
round_in (OfCollector counts phase last) = (phase, last)
round_in s = (Starting, 0)

abbrev pub actors_in : List Standing → Actors
actors_in ss = record {
  clients = λ c. progress_in (standing_at ss (ClientActor (record { 0 = c })));
  job = (job_in (standing_at ss Renamer)).0;
  job_last = (job_in (standing_at ss Renamer)).1;
  round = (round_in (standing_at ss Collector)).0;
  round_last = (round_in (standing_at ss Collector)).1;
}

-- the numbers of the clients among them, in their order
abbrev pub clients_in : List Standing → List ℕ
clients_in [] = []
clients_in (OfClient counts c p ∷ ss) = c.0 ∷ clients_in ss
clients_in (s ∷ ss) = clients_in ss

-- the actor works with this many shards and stores
abbrev pub works_with : Counts → Standing → Bool
works_with counts (OfClient own c p) = (own.shards == counts.shards) && (own.stores == counts.stores)
works_with counts (OfRenamer phase last) = true
works_with counts (OfCollector own phase last) = (own.shards == counts.shards) && (own.stores == counts.stores)
