-- What clients left in a shard, as the code lists it.
use Rattle.std.specs.Prelude.{List, [], ◌∷◌, Bool, false, ◌==◌, Option, Some, None}
use Rattle.next_ids.specs.declared.ids.Client.{Client}
use Rattle.next_steps.specs.declared.strays.Stray.{Stray}

-- whether the client stands there
abbrev pub is_client : Client → Option Client → Bool
is_client client None = false
is_client client (Some held) = held.0 == client.0

-- what was left, or nothing
abbrev pub left_in : Option Stray → List Stray
left_in None = []
left_in (Some stray) = stray ∷ []
