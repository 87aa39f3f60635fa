-- What a core shows: its world, its actors, the steps made so far, and whose next step finds a full log.
use Rattle.std.specs.Prelude.{◌≡◌, ℕ, List, Bool, true, length, Option, Some}
use Rattle.next_ids.specs.declared.ids.Actor.{Actor}
use Rattle.next_ids.specs.declared.ids.PlaceNo.{PlaceNo}
use Rattle.next_ids.specs.declared.counts.Counts.{Counts}
use Rattle.next_steps.specs.declared.ask.Ask.{Ask}
use Rattle.next_steps.specs.Asks.{place_of}
use Rattle.next_rules.specs.Actors.{next_ask}
use Rattle.next_rules.specs.Worlds.{World}
use Rattle.next_actor.specs.Standings.{Standing}
use Rattle.next_places.specs.Held.{Held}
use Rattle.next_places.specs.Views.{held, counts_of as places_count}
use Rattle.next_core.specs.Casts.{standings, clients_in}
use Rattle.next_core.specs.Casts as casts
use Rattle.next_core.specs.Parts.{log_full}
use Rattle.next_core.specs.Parts as parts
use Rattle.next_core.specs.Reached.{world_in}
use Rattle.next_core.specs.declared.service.Core.{Core}

abbrev pub cast_of : Core → List Standing
cast_of core = standings core.actors.items

abbrev pub world_of : Core → World
world_of core = world_in core.places (cast_of core) core.order.items

-- the numbers of the clients, in the order of the script's lists, by rising number
abbrev pub members_of : Core → List ℕ
members_of core = clients_in (cast_of core)

-- the actor is the Renamer, the collector, or a client of the script
abbrev pub is_member : Core → Actor → Bool
is_member core actor = casts.is_member (cast_of core) actor

-- how many steps were made
abbrev pub steps_of : Core → ℕ
steps_of core = length core.order.items

-- what the places hold, with their logs
abbrev pub held_of : Core → Held
held_of core = held core.places

-- how many shards and stores there are
abbrev pub counts_of : Core → Counts
counts_of core = places_count core.places

-- what the actor asks next, at the moment
abbrev pub asked_of : Core → (moment : ℕ) → Actor → Option Ask
asked_of core moment actor = next_ask (counts_of core) (world_of core).actors moment actor

-- whether the actor has no step to make
abbrev pub is_idle : Core → (moment : ℕ) → Actor → Bool
is_idle core moment actor = parts.is_idle moment (held_of core) (casts.standing_at (cast_of core) actor)

-- the actor's next step is at this place, and the log there has 1,048,576 entries
pub record AsksFull (core : Core) (moment : ℕ) (actor : Actor) (place : PlaceNo) : Type 0 where
  pub ask : Ask
  pub next : Some ask ≡ asked_of core moment actor
  pub there : place ≡ place_of ask
  pub full : log_full (held_of core) ask ≡ true
