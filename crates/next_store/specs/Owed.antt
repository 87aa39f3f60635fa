-- A file as a list of at most one stray, and one client of a set.
use Rattle.std.specs.Prelude.{List, [], ◌∷◌, Bool, false, ◌==◌, Option, Some, None}
use Rattle.next_ids.specs.declared.ids.Client.{Client}
use Rattle.next_steps.specs.declared.strays.Stray.{Stray}

abbrev pub owed_in : Option Stray → List Stray
owed_in None = []
owed_in (Some stray) = stray ∷ []

abbrev pub is_client : Client → Option Client → Bool
is_client client None = false
is_client client (Some c) = c.0 == client.0
