-- The run that the logs of the places make, in the order in which the places were asked. All stand the newest first.
use Rattle.std.specs.Prelude.{ℕ, List, [], ◌∷◌, ◌++◌}
use Rattle.next_ids.specs.declared.ids.PlaceNo.{PlaceNo}
use Rattle.next_steps.specs.declared.entry.Entry.{Entry}
use Rattle.next_rules.specs.Actors.{Actors}
use Rattle.next_rules.specs.Worlds.{World}
use Rattle.next_places.specs.Held.{Held, set_log}

-- the first entry of a place's log, under the place's number
abbrev pub first_entry : PlaceNo → List Entry → List (PlaceNo × Entry)
first_entry place [] = []
first_entry place (e ∷ es) = (place, e) ∷ []

abbrev pub without_first : List Entry → List Entry
without_first [] = []
without_first (e ∷ es) = es

-- what the newest step at the place takes of the logs, and what it leaves
abbrev pub taken : PlaceNo → (ℕ → List Entry) → List (PlaceNo × Entry)
taken place logs = first_entry place (logs place.0)

abbrev pub left : PlaceNo → (ℕ → List Entry) → ℕ → List Entry
left place logs = set_log logs place.0 (without_first (logs place.0))

abbrev pub woven : List PlaceNo → (ℕ → List Entry) → List (PlaceNo × Entry)
woven [] logs = []
woven (place ∷ order) logs = taken place logs ++ woven order (left place logs)

-- the world of these places and actors
abbrev pub world_from : List PlaceNo → Held → Actors → World
world_from order h actors = record {
  service = h.service;
  lasts = h.lasts;
  actors = actors;
  run = woven order h.logs;
}
