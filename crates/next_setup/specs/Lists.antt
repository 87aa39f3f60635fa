-- Clients by rising number, each with its commands, and whose turns are listed.
use Rattle.std.specs.Prelude.{ℕ, ◌+◌, ◌==◌, nat_le, nat_lt, Bool, true, ◌&&◌, if◌then◌else◌, List, [], ◌∷◌, ◌++◌, replicate}
use Rattle.std.specs.List.{list_any}
use Rattle.next_ids.specs.declared.ids.Actor.{Actor}
use Rattle.next_ids.specs.declared.ids.Client.{Client}
use Rattle.next_walk.specs.declared.command.Command.{Command}

-- the clients rise strictly, above this number and to 32
abbrev pub rises_from : ℕ → List (Client × List Command) → Bool
rises_from low [] = true
rises_from low (list ∷ lists) = nat_lt low list.0.0 && nat_le list.0.0 32 && rises_from list.0.0 lists

-- whether the client has commands
abbrev pub is_in : List (Client × List Command) → Client → Bool
is_in lists client = list_any (λ list. list.0.0 == client.0) lists

-- one more command, at the end of its client's; a new client stands at its place
abbrev pub with_command : List (Client × List Command) → Client → Command → List (Client × List Command)
with_command [] client command = (client, command ∷ []) ∷ []
with_command (list ∷ lists) client command =
    if nat_le client.0 list.0.0
    then (if list.0.0 == client.0 then (list.0, list.1 ++ command ∷ []) ∷ lists else (client, command ∷ []) ∷ list ∷ lists)
    else list ∷ with_command lists client command

-- who takes each turn, in order
abbrev pub turns_in : List (Actor × ℕ) → List Actor
turns_in [] = []
turns_in (listed ∷ more) = replicate listed.1 listed.0 ++ turns_in more

-- how many turns there are
abbrev pub count_in : List (Actor × ℕ) → ℕ
count_in [] = 0
count_in (listed ∷ more) = listed.1 + count_in more
