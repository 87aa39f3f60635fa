-- A step of one client on the places.
use Rattle.std.specs.Prelude.{ℕ, List, ◌∷◌, Bool, false, Option, Some, None}
use Rattle.cfs_ids.specs.declared.ids.Client.{Client}
use Rattle.cfs_ids.specs.declared.ids.PlaceNo.{PlaceNo}
use Rattle.cfs_ids.specs.declared.ids.Actor.TheVariants.{Client as ClientActor}
use Rattle.cfs_steps.specs.declared.ask.Ask.{Ask}
use Rattle.cfs_steps.specs.Asks.{place_of}
use Rattle.cfs_rules.specs.Worlds.{Counts, Progress, next_ask, hears}
use Rattle.cfs_view.specs.Held.{Held, Step, serve, full}

-- the places, one client, and the places that were asked so far, the newest first
pub record Part : Type 0 where
  pub held : Held
  pub progress : Progress
  pub order : List PlaceNo

abbrev pub after_step : Part → Ask → Step → Part
after_step part ask step = record { held = step.held; progress = hears part.progress (place_of ask) step.entry; order = place_of ask ∷ part.order }

abbrev pub turned : Client → Part → Option Ask → Part
turned c part None = part
turned c part (Some ask) = after_step part ask (serve part.held (ClientActor c) part.progress.last ask)

-- the part after a turn of the client
abbrev pub turn_part : Counts → Client → Part → Part
turn_part counts c part = turned c part (next_ask counts c part.progress)

-- what the places hold after the client's step with this ask, the client's last number being so
unfoldable pub held_stepped : Held → Client → ℕ → Ask → Held
held_stepped h c last ask = (serve h (ClientActor c) last ask).held

-- whether the place of the next ask serves nothing more
abbrev pub full_asked : Held → ℕ → Option Ask → Bool
full_asked h last None = false
full_asked h last (Some ask) = full h last ask

abbrev pub full_next : Counts → Client → Held → Progress → Bool
full_next counts c h p = full_asked h p.last (next_ask counts c p)
