-- Clients that stand in a map under their numbers.
use Rattle.std.specs.Prelude.{ℕ, ◌<◌, ◌^◌, List, [], ◌∷◌, map}
use Rattle.std.specs.FinMap.{entries}
use Rattle.next_ids.specs.declared.ids.Client.{Client}
use Rattle.next_ids.specs.Maps.{Numbers}

abbrev pub clients : List (ℕ × Unit {0}) → List Client
clients es = map (λ e. record { 0 = e.0 }) es

abbrev pub clients_of : Numbers (Unit {0}) → List Client
clients_of numbers = clients (entries numbers)

-- each number is one that a client has
abbrev pub AreClients : List (ℕ × Unit {0}) → Type 0
AreClients [] = Unit {0}
AreClients (e ∷ es) = (e.0 < 2 ^ 32) × AreClients es
