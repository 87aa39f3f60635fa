-- Clients by rising number.
use Rattle.std.specs.Prelude.{◌<◌, List, [], ◌∷◌, Bool, false, nat_lt, ◌||◌, ◌==◌, if◌then◌else◌, Option, Some, None}
use Rattle.next_ids.specs.declared.ids.Client.{Client}

-- the client's number is above those of the list
abbrev pub IsAbove : List Client → Client → Type 0
IsAbove [] client = Unit {0}
IsAbove (c ∷ cs) client = (c.0 < client.0) × IsAbove cs client

-- whether this is the client
abbrev pub is_client : Client → Option Client → Bool
is_client client None = false
is_client client (Some held) = held.0 == client.0

abbrev pub holds : List Client → Client → Bool
holds [] client = false
holds (c ∷ cs) client = (c.0 == client.0) || holds cs client

-- the list with the client at its place; a client that is in it already stands there once
abbrev pub entered : List Client → Client → List Client
entered [] client = client ∷ []
entered (c ∷ cs) client =
    if c.0 == client.0 then c ∷ cs else (if nat_lt client.0 c.0 then client ∷ c ∷ cs else c ∷ entered cs client)
