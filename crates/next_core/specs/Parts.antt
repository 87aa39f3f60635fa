-- A step of one actor on the places.
use Rattle.std.specs.Prelude.{ℕ, List, ◌∷◌, Bool, true, false, not, ◌&&◌, nat_le, length, is_none, Option, Some, None}
use Rattle.next_ids.specs.declared.ids.PlaceNo.{PlaceNo}
use Rattle.next_steps.specs.declared.ask.Ask.{Ask}
use Rattle.next_steps.specs.Asks.{place_of}
use Rattle.next_actor.specs.Standings.{Standing, actor_of, last_of, next_of, after}
use Rattle.next_places.specs.Held.{Held, Step, served, full}

-- the places, one actor, and the places that were asked so far, the newest first
pub record Part : Type 0 where
  pub held : Held
  pub standing : Standing
  pub order : List PlaceNo

abbrev pub after_step : Part → Ask → Step → Part
after_step part ask step = record {
  held = step.held;
  standing = after part.standing (place_of ask) step.entry;
  order = place_of ask ∷ part.order;
}

-- where the desk has nothing to tell yet, there is no step
abbrev pub with_served : Part → Ask → Option Step → Part
with_served part ask None = part
with_served part ask (Some step) = after_step part ask step

-- what the place of the ask gives
abbrev pub served_in : (moment : ℕ) → Held → Standing → Ask → Option Step
served_in moment h s ask = served h (actor_of s) (last_of s) moment ask

abbrev pub turned : (moment : ℕ) → Part → Option Ask → Part
turned moment part None = part
turned moment part (Some ask) = with_served part ask (served_in moment part.held part.standing ask)

-- the part after a turn of the actor, at the moment
abbrev pub turn_part : (moment : ℕ) → Part → Part
turn_part moment part = turned moment part (next_of part.standing moment)

-- whether the place of the ask serves nothing more
abbrev pub full_asked : Held → (last : ℕ) → Option Ask → Bool
full_asked h last None = false
full_asked h last (Some ask) = full h last ask

abbrev pub full_next : (moment : ℕ) → Held → Standing → Bool
full_next moment h s = full_asked h (last_of s) (next_of s moment)

-- whether the log of the ask's place has its greatest length
abbrev pub log_full : Held → Ask → Bool
log_full h ask = nat_le 1048576 (length (h.logs (place_of ask).0))

-- whether there is no step to make: the actor has ended, or the desk has nothing to tell yet
abbrev pub idle_asked : (moment : ℕ) → Held → Standing → Option Ask → Bool
idle_asked moment h s None = true
idle_asked moment h s (Some ask) = not (full h (last_of s) ask) && is_none (served_in moment h s ask)

abbrev pub is_idle : (moment : ℕ) → Held → Standing → Bool
is_idle moment h s = idle_asked moment h s (next_of s moment)
