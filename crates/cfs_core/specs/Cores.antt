-- What a core shows: its world, its members, the steps made so far, and whose next step finds a full log.
use Rattle.std.specs.Prelude.{◌≡◌, ℕ, List, Bool, true, length, Option, Some}
use Rattle.cfs_ids.specs.declared.ids.PlaceNo.{PlaceNo}
use Rattle.cfs_steps.specs.declared.ask.Ask.{Ask}
use Rattle.cfs_steps.specs.Asks.{place_of}
use Rattle.cfs_rules.specs.Worlds.{World, Counts, client_of, next_ask}
use Rattle.cfs_view.specs.Held.{Held, log_full}
use Rattle.cfs_view.specs.Views.{held, counts_of as places_of}
use Rattle.cfs_core.specs.Clients as states
use Rattle.cfs_core.specs.Parts.{held_stepped}
use Rattle.cfs_core.specs.declared.service.Core.{Core}

abbrev pub world_of : Core → World
world_of core = states.world_in core.places core.clients.items core.order.items

-- the numbers of the clients, in the order of the script's lists, by rising number
abbrev pub members_of : Core → List ℕ
members_of core = states.members_of core.clients.items

abbrev pub is_member : Core → ℕ → Bool
is_member core c = states.is_member core.clients.items c

-- how many steps were made
abbrev pub steps_of : Core → ℕ
steps_of core = length core.order.items

-- what the places hold, with their logs
abbrev pub held_of : Core → Held
held_of core = held core.places

-- how many shards and stores there are
abbrev pub counts_of : Core → Counts
counts_of core = places_of core.places

abbrev pub asked_of : Core → ℕ → Option Ask
asked_of core c = next_ask (counts_of core) (client_of c) ((world_of core).clients c)

-- what the places hold after the client's step with this ask
abbrev pub held_after : Core → ℕ → Ask → Held
held_after core c ask = held_stepped (held_of core) (client_of c) ((world_of core).clients c).last ask

-- the client's next step is at this place, and the log there has 1,048,576 entries
pub record AsksFull (core : Core) (c : ℕ) (place : PlaceNo) : Type 0 where
  pub ask : Ask
  pub next : Some ask ≡ asked_of core c
  pub there : place ≡ place_of ask
  pub full : log_full (held_of core) ask ≡ true
