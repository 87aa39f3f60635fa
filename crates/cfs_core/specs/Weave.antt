-- The run that the logs of the places make, in the order in which the places were asked. All stand the newest first.
use Rattle.std.specs.Prelude.{ℕ, List, [], ◌∷◌, ◌++◌}
use Rattle.cfs_ids.specs.declared.ids.PlaceNo.{PlaceNo}
use Rattle.cfs_steps.specs.declared.entry.Entry.{Entry}
use Rattle.cfs_rules.specs.Worlds.{World, Progress}
use Rattle.cfs_view.specs.Held.{Held, set_log}

-- the first entry of a place's log, under the place's number
abbrev pub first_entry : PlaceNo → List Entry → List (PlaceNo × Entry)
first_entry place [] = []
first_entry place (e ∷ es) = (place, e) ∷ []

abbrev pub without_first : List Entry → List Entry
without_first [] = []
without_first (e ∷ es) = es

-- what the newest step at the place takes of the logs, and what it leaves
abbrev pub taken : PlaceNo → (ℕ → List Entry) → List (PlaceNo × Entry)
taken place logs = first_entry place (logs place.0)

abbrev pub left : PlaceNo → (ℕ → List Entry) → ℕ → List Entry
left place logs = set_log logs place.0 (without_first (logs place.0))

abbrev pub woven : List PlaceNo → (ℕ → List Entry) → List (PlaceNo × Entry)
woven [] logs = []
woven (place ∷ order) logs = taken place logs ++ woven order (left place logs)

-- the world of these places and clients
abbrev pub world_from : List PlaceNo → Held → (ℕ → Progress) → World
world_from order h clients = record {
  shard = h.shard;
  store = h.store;
  roster = h.roster;
  lasts = h.lasts;
  clients = clients;
  run = woven order h.logs;
}
