-- The entries of logs.
use Rattle.std.specs.Prelude.{List, map, flat_map}
use Rattle.next_ids.specs.declared.ids.PlaceNo.{PlaceNo}
use Rattle.next_ids.specs.declared.ids.Stamp.{Stamp}
use Rattle.next_steps.specs.declared.entry.Entry.{Entry}

-- the stamp of a step
abbrev pub stamp_of : PlaceNo × Entry → Stamp
stamp_of e = record { number = e.1.number; place = e.0 }

-- the entries of a log, each with its place
abbrev pub entries_at : PlaceNo × List Entry → List (PlaceNo × Entry)
entries_at log = map (λ entry. (log.0, entry)) log.1

-- the entries of all logs
abbrev pub entries_of : List (PlaceNo × List Entry) → List (PlaceNo × Entry)
entries_of logs = flat_map entries_at logs
