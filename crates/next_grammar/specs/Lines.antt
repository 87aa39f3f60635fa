-- What the first word of a line says, and the words behind `places` and `stop`.
use Rattle.std.specs.Prelude.{ℕ, if◌then◌else◌, List, codes, Option, Some, None, Result, Ok, Err}
use Rattle.std.specs.Str.{bytes_eq}
use Rattle.next_ids.specs.declared.ids.Client.{Client}
use Rattle.next_grammar.specs.declared.fault.Fault.{Fault}
use Rattle.next_grammar.specs.declared.fault.Fault.TheVariants.{BadCommand, BadNumber}
use Rattle.next_grammar.specs.declared.line.Counts.{Counts}
use Rattle.next_grammar.specs.declared.line.LineKind.{LineKind}
use Rattle.next_grammar.specs.declared.line.LineKind.TheVariants.{Places, Client as ClientLine, Stop as StopLine, Turns}
use Rattle.next_grammar.specs.declared.line.Stop.{Stop}
use Rattle.next_grammar.specs.Numbers.{client_of, count_of, steps_of}
use Rattle.next_grammar.specs.Words.{pair}

unfoldable pub kind_of : List ℕ → Option LineKind
kind_of word =
    if bytes_eq word (codes "places") then Some Places
    else (if bytes_eq word (codes "client") then Some ClientLine
    else (if bytes_eq word (codes "stop") then Some StopLine
    else (if bytes_eq word (codes "turns") then Some Turns else None)))

abbrev pub counted : Option ℕ → Option ℕ → Result Counts Fault
counted None stores = Err BadNumber
counted (Some shards) None = Err BadNumber
counted (Some shards) (Some stores) = Ok (record { shards = shards; stores = stores })

-- how many shards, and how many stores
abbrev pub places_in : Option (List ℕ × List ℕ) → Result Counts Fault
places_in None = Err BadCommand
places_in (Some texts) = counted (count_of texts.0) (count_of texts.1)

abbrev pub stopped : Option Client → Option ℕ → Result Stop Fault
stopped None steps = Err BadNumber
stopped (Some client) None = Err BadNumber
stopped (Some client) (Some steps) = Ok (record { client = client; steps = steps })

-- a client, and after how many steps of its own it stops
abbrev pub stop_in : Option (List ℕ × List ℕ) → Result Stop Fault
stop_in None = Err BadCommand
stop_in (Some texts) = stopped (client_of texts.0) (steps_of texts.1)

unfoldable pub places_said : List (List ℕ) → Result Counts Fault
places_said words = places_in (pair words)

unfoldable pub stop_said : List (List ℕ) → Result Stop Fault
stop_said words = stop_in (pair words)
