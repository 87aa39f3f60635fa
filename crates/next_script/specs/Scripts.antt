-- The script that bytes say, or the number of the first line that has a fault, with the first of its faults.
use Rattle.std.specs.Prelude.{ℕ, ◌+◌, ◌==◌, nat_le, nat_lt, Bool, true, false, ◌||◌, if◌then◌else◌, List, [], ◌∷◌, ◌++◌, length, take, Option, Some, None, Result, Ok, Err}
use Rattle.std.specs.List.{list_all}
use Rattle.next_ids.specs.declared.ids.Actor.{Actor}
use Rattle.next_ids.specs.declared.ids.Actor.TheVariants.{Client as ClientTurn}
use Rattle.next_walk.specs.declared.command.Command.{Command}
use Rattle.next_walk.specs.declared.command.Command.TheVariants.{List as ListCommand}
use Rattle.next_grammar.specs.declared.fault.Fault.{Fault}
use Rattle.next_grammar.specs.declared.fault.Fault.TheVariants.{NoPlaces, BadNumber, BadCommand, TooMany, LineTooLong, LateLine, NotBuilt}
use Rattle.next_grammar.specs.declared.line.Counts.{Counts}
use Rattle.next_grammar.specs.declared.line.LineKind.{LineKind}
use Rattle.next_grammar.specs.declared.line.LineKind.TheVariants.{Places, Client as ClientLine, Stop as StopLine, Turns as TurnsLine}
use Rattle.next_grammar.specs.declared.line.Stop.{Stop}
use Rattle.next_grammar.specs.declared.order.Order.{Order}
use Rattle.next_grammar.specs.declared.turns.ListedActor.{ListedActor}
use Rattle.next_grammar.specs.declared.turns.ListedActor.TheVariants.{Client as ListedClient, Renamer, Collector}
use Rattle.next_grammar.specs.declared.turns.ListedTurns.{ListedTurns}
use Rattle.next_grammar.specs.Lines.{kind_of, places_said, stop_said}
use Rattle.next_grammar.specs.Orders.{order_said}
use Rattle.next_grammar.specs.Turns.{turns_said}
use Rattle.next_grammar.specs.Words.{words, is_comment}
use Rattle.next_script.specs.declared.reading.Reading.{Reading}
use Rattle.next_setup.specs.declared.script.Script.{Script}
use Rattle.next_setup.specs.Built.{is_built}
use Rattle.next_setup.specs.Lists.{is_in, with_command}
use Rattle.next_script.specs.Pieces.{lines, rest_of_lines, without_return}

-- what follows, where the words are good
abbrev pub and_then : {A B : Type 0} → (A → Result B Fault) → Result A Fault → Result B Fault
and_then next (Ok x) = next x
and_then next (Err fault) = Err fault

abbrev pub is_list : Command → Bool
is_list (ListCommand path) = true
is_list command = false

-- nothing was read but the first line that counts
abbrev pub start : Counts → Reading
start counts = record { script = record { shards = counts.shards; stores = counts.stores; commands = []; stops = []; turns = [] }; commands = 0; lists = 0; turns = 0 }

-- ---- `client` lines: 65,536 commands at most, and 128 that list
abbrev pub ordered : Reading → Order → Reading
ordered r order = record {
  script = record { shards = r.script.shards; stores = r.script.stores; commands = with_command r.script.commands order.client order.command; stops = r.script.stops; turns = r.script.turns };
  commands = r.commands + 1;
  lists = if is_list order.command then r.lists + 1 else r.lists;
  turns = r.turns;
}

unfoldable pub with_order : Reading → Order → Result Reading Fault
with_order r order =
    if nat_le 65536 r.commands || (if is_list order.command then nat_le 128 r.lists else false) then Err TooMany
    else (if is_built order.command then Ok (ordered r order) else Err NotBuilt)

unfoldable pub client_line : Reading → List (List ℕ) → Result Reading Fault
client_line r words = and_then (with_order r) (order_said words)

-- ---- `stop` lines: of a client that has commands. No stop is built, so a second one of a client isn't met
abbrev pub with_stop : Reading → Stop → Result Reading Fault
with_stop r stop = if is_in r.script.commands stop.client then Err NotBuilt else Err BadNumber

unfoldable pub stop_line : Reading → List (List ℕ) → Result Reading Fault
stop_line r words = and_then (with_stop r) (stop_said words)

-- ---- `turns` lines: 1,000,000 turns at most, each of a client that has commands, of the Renamer or the collector
abbrev pub is_known : Reading → ListedActor → Bool
is_known r (ListedClient client) = is_in r.script.commands client
is_known r Renamer = true
is_known r Collector = true

abbrev pub known : Reading → Option ListedTurns → Option ListedTurns
known r None = None
known r (Some turns) = if is_known r turns.actor then Some turns else None

abbrev pub onto : Option ListedTurns → Option (List ListedTurns) → Option (List ListedTurns)
onto None more = None
onto (Some turns) None = None
onto (Some turns) (Some more) = Some (turns ∷ more)

-- what the words list, where each of them is good
abbrev pub all_listed : Reading → List (List ℕ) → Option (List ListedTurns)
all_listed r [] = Some []
all_listed r (word ∷ words) = onto (known r (turns_said word)) (all_listed r words)

-- how many turns these are
abbrev pub turn_count : List ListedTurns → ℕ
turn_count [] = 0
turn_count (turns ∷ more) = turns.count + turn_count more

abbrev pub is_client : ListedActor → Bool
is_client (ListedClient client) = true
is_client Renamer = false
is_client Collector = false

abbrev pub turns_of : ListedActor → ℕ → List (Actor × ℕ)
turns_of (ListedClient client) count = (ClientTurn client, count) ∷ []
turns_of Renamer count = []
turns_of Collector count = []

-- the turns of the clients among these
abbrev pub client_turns : List ListedTurns → List (Actor × ℕ)
client_turns [] = []
client_turns (turns ∷ more) = turns_of turns.actor turns.count ++ client_turns more

abbrev pub turned : Reading → List ListedTurns → Reading
turned r listed = record {
  script = record { shards = r.script.shards; stores = r.script.stores; commands = r.script.commands; stops = r.script.stops; turns = r.script.turns ++ client_turns listed };
  commands = r.commands;
  lists = r.lists;
  turns = r.turns + turn_count listed;
}

abbrev pub with_turns : Reading → Option (List ListedTurns) → Result Reading Fault
with_turns r None = Err BadNumber
with_turns r (Some listed) =
    if nat_lt 1000000 (r.turns + turn_count listed) then Err TooMany
    else (if list_all (λ turns. is_client turns.actor) listed then Ok (turned r listed) else Err NotBuilt)

unfoldable pub turns_line : Reading → List (List ℕ) → Result Reading Fault
turns_line r [] = Err BadCommand
turns_line r (word ∷ words) = with_turns r (all_listed r (word ∷ words))

-- ---- a line, by its first word and the words behind it. Nothing is read before `places`
abbrev pub before_turns : Reading → Result Reading Fault → Result Reading Fault
before_turns r said = if length r.script.turns == 0 then said else Err LateLine

abbrev pub by_kind : Option Reading → LineKind → List (List ℕ) → Result Reading Fault
by_kind None Places words = and_then (λ counts. Ok (start counts)) (places_said words)
by_kind None ClientLine words = Err NoPlaces
by_kind None StopLine words = Err NoPlaces
by_kind None TurnsLine words = Err NoPlaces
by_kind (Some r) Places words = Err LateLine
by_kind (Some r) ClientLine words = before_turns r (client_line r words)
by_kind (Some r) StopLine words = before_turns r (stop_line r words)
by_kind (Some r) TurnsLine words = turns_line r words

abbrev pub in_kind : Option Reading → Option LineKind → List (List ℕ) → Result (Option Reading) Fault
in_kind s None words = Err BadCommand
in_kind s (Some kind) words = and_then (λ r. Ok (Some r)) (by_kind s kind words)

-- a line without words says nothing
abbrev pub by_words : Option Reading → List (List ℕ) → Result (Option Reading) Fault
by_words s [] = Ok s
by_words s (first ∷ words) = in_kind s (kind_of first) words

-- and neither does a comment
unfoldable pub with_text : Option Reading → List ℕ → Result (Option Reading) Fault
with_text s text = if is_comment text then Ok s else by_words s (words text)

-- a line of 4,096 bytes at most
unfoldable pub with_line : Option Reading → List ℕ → (text : List ℕ) → Result (Option Reading) Fault
with_line s line text = if nat_lt 4096 (length line) then Err LineTooLong else with_text s text

-- ---- all lines
abbrev pub or_fault : {A B : Type 0} → ℕ → (A → Result B (ℕ × Fault)) → Result A Fault → Result B (ℕ × Fault)
or_fault number next (Ok x) = next x
or_fault number next (Err fault) = Err (number, fault)

-- the script, once all lines are read
abbrev pub ended : ℕ → Option Reading → Result Script (ℕ × Fault)
ended number None = Err (number, NoPlaces)
ended number (Some r) = Ok r.script

-- what stands behind the last LF: a line, where it isn't empty
abbrev pub last_line : ℕ → Option Reading → List ℕ → Result Script (ℕ × Fault)
last_line number s [] = ended number s
last_line number s (b ∷ rest) = or_fault number (ended (number + 1)) (with_line s (b ∷ rest) (b ∷ rest))

-- the lines from this number on; a CR before an LF is no part of a line's text. In the line that begins behind them the
-- limit on bytes is passed, where `within` is false
unfoldable pub after_lines : ℕ → Option Reading → List (List ℕ) → (rest : List ℕ) → (within : Bool) → Result Script (ℕ × Fault)
after_lines number s [] rest within = if within then last_line number s rest else Err (number, TooMany)
after_lines number s (line ∷ more) rest within = or_fault number (λ next. after_lines (number + 1) next more rest within) (with_line s line (without_return line))

-- the greatest number of bytes
unfoldable pub most_bytes : ℕ
most_bytes = 4194304

unfoldable pub script_of : List ℕ → Result Script (ℕ × Fault)
script_of bytes = let text = take most_bytes bytes in after_lines 1 None (lines text) (rest_of_lines text) (nat_le (length bytes) most_bytes)
