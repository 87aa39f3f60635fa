-- After how many of its own steps a client stops.
use Rattle.std.specs.Prelude.{ℕ, ◌==◌, not, ◌&&◌, Bool, true, Option, Some, None, if◌then◌else◌, List, [], ◌∷◌}
use Rattle.std.specs.List.{list_any}
use Rattle.next_ids.specs.declared.ids.Client.{Client}

-- whether the client stops
abbrev pub has_stop : List (Client × ℕ) → Client → Bool
has_stop stops client = list_any (λ stop. stop.0.0 == client.0) stops

-- no client has two items
abbrev pub names_once : List (Client × ℕ) → Bool
names_once [] = true
names_once (stop ∷ stops) = not (has_stop stops stop.0) && names_once stops

-- the steps of the client with a number, where it stops
abbrev pub stop_in : List (Client × ℕ) → ℕ → Option ℕ
stop_in [] c = None
stop_in (stop ∷ stops) c = if stop.0.0 == c then Some stop.1 else stop_in stops c
