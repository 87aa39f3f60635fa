-- The form of a script, said over all its lines, with no reader.
use Rattle.std.specs.Prelude.{◌≡◌, ℕ, ◌+◌, ◌≤◌, true, false, if◌then◌else◌, List, [], ◌∷◌, ◌++◌, length, map, codes, Option, Some, None, Ok, IsTrue, ◌⊎◌}
use Rattle.std.specs.List.{All, flat_map}
use Rattle.next_ids.specs.declared.ids.Client.{Client}
use Rattle.next_walk.specs.declared.command.Command.{Command}
use Rattle.next_grammar.specs.declared.line.Counts.{Counts}
use Rattle.next_grammar.specs.declared.order.Order.{Order}
use Rattle.next_grammar.specs.declared.turns.ListedActor.{ListedActor}
use Rattle.next_grammar.specs.declared.turns.ListedActor.TheVariants.{Client as ListedClient, Renamer, Collector}
use Rattle.next_grammar.specs.declared.turns.ListedTurns.{ListedTurns}
use Rattle.next_grammar.specs.Lines.{places_said}
use Rattle.next_grammar.specs.Orders.{order_said}
use Rattle.next_grammar.specs.Turns.{turns_said}
use Rattle.next_grammar.specs.Words.{words, is_comment}
use Rattle.next_setup.specs.declared.script.Script.{Script}
use Rattle.next_setup.specs.Built.{is_built}
use Rattle.next_setup.specs.Lists.{is_in, with_command}
use Rattle.next_script.specs.Pieces.{lines, rest_of_lines, without_return}
use Rattle.next_script.specs.Scripts.{is_list, client_turns, turn_count}

-- the lines that end with LF, and what stands behind them where it isn't empty
abbrev pub with_rest : List (List ℕ) → List ℕ → List (List ℕ)
with_rest lines [] = lines
with_rest lines (b ∷ rest) = lines ++ (b ∷ rest) ∷ []

abbrev pub all_lines : List ℕ → List (List ℕ)
all_lines bytes = with_rest (lines bytes) (rest_of_lines bytes)

-- their texts: a CR before an LF is no part of the text
abbrev pub texts : List ℕ → List (List ℕ)
texts bytes = with_rest (map without_return (lines bytes)) (rest_of_lines bytes)

-- ---- what a line says. A comment, and a line without words, says nothing
abbrev pub IsSilent : List ℕ → Type 0
IsSilent text = (is_comment text ≡ true) ⊎ (words text ≡ [])

-- the line has this first word, and these words behind it
abbrev pub Has : List ℕ → List ℕ → List (List ℕ) → Type 0
Has text first behind = (is_comment text ≡ false) × (words text ≡ first ∷ behind)

pub record SaysPlaces (text : List ℕ) (counts : Counts) : Type 0 where
  pub behind : List (List ℕ)
  pub has : Has text (codes "places") behind
  pub said : places_said behind ≡ Ok counts

pub record SaysOrder (text : List ℕ) (order : Order) : Type 0 where
  pub behind : List (List ℕ)
  pub has : Has text (codes "client") behind
  pub said : order_said behind ≡ Ok order
  pub built : is_built order.command ≡ true

-- the actor is a client that has commands
abbrev pub IsListedIn : List (Client × List Command) → ListedActor → Type 0
IsListedIn commands (ListedClient client) = IsTrue (is_in commands client)
IsListedIn commands Renamer = ⊥
IsListedIn commands Collector = ⊥

-- turns of such clients
pub record SaysTurns (commands : List (Client × List Command)) (text : List ℕ) (listed : List ListedTurns) : Type 0 where
  pub behind : List (List ℕ)
  pub has : Has text (codes "turns") behind
  pub said : map turns_said behind ≡ map Some listed
  pub clients : All (λ (turns : ListedTurns). IsListedIn commands turns.actor) listed

abbrev pub MaySayOrder : List ℕ → Option Order → Type 0
MaySayOrder text None = IsSilent text
MaySayOrder text (Some order) = SaysOrder text order

abbrev pub MaySayTurns : List (Client × List Command) → List ℕ → List ListedTurns → Type 0
MaySayTurns commands text [] = IsSilent text
MaySayTurns commands text (turns ∷ more) = SaysTurns commands text (turns ∷ more)

-- one after the other, these texts say those
abbrev pub Each : {A B : Type 0} → (A → B → Type 0) → List A → List B → Type 0
Each P [] [] = Unit {0}
Each P [] (y ∷ ys) = ⊥
Each P (x ∷ xs) [] = ⊥
Each P (x ∷ xs) (y ∷ ys) = P x y × Each P xs ys

-- ---- the orders of all lines
abbrev pub orders_in : List (Option Order) → List Order
orders_in [] = []
orders_in (None ∷ more) = orders_in more
orders_in (Some order ∷ more) = order ∷ orders_in more

-- each client's commands in the order of their lines, by rising clients
abbrev pub grouped_from : List (Client × List Command) → List Order → List (Client × List Command)
grouped_from lists [] = lists
grouped_from lists (order ∷ orders) = grouped_from (with_command lists order.client order.command) orders

abbrev pub grouped : List Order → List (Client × List Command)
grouped orders = grouped_from [] orders

-- how many of the commands list
abbrev pub lists_in : List Order → ℕ
lists_in [] = 0
lists_in (order ∷ orders) = (if is_list order.command then 1 else 0) + lists_in orders

-- 1 to 64 shards or stores
abbrev pub IsCount : ℕ → Type 0
IsCount n = (1 ≤ n) × (n ≤ 64)

-- The bytes are a script's. Lines that say nothing come first, then `places`, then orders, then turns, and lines that
-- say nothing between them; all within the limits.
pub record IsScript (bytes : List ℕ) (script : Script) : Type 0 where
  pub heads : List (List ℕ)
  pub opening : List ℕ
  pub counts : Counts
  pub order_texts : List (List ℕ)
  pub orders : List (Option Order)
  pub turn_texts : List (List ℕ)
  pub listed : List (List ListedTurns)
  pub lines : texts bytes ≡ heads ++ opening ∷ (order_texts ++ turn_texts)
  pub silent : All IsSilent heads
  pub places : SaysPlaces opening counts
  pub each_order : Each MaySayOrder order_texts orders
  pub each_turns : Each (MaySayTurns (grouped (orders_in orders))) turn_texts listed
  pub few_bytes : length bytes ≤ 4194304
  pub short_lines : All (λ line. length line ≤ 4096) (all_lines bytes)
  pub few_orders : length (orders_in orders) ≤ 65536
  pub few_lists : lists_in (orders_in orders) ≤ 128
  pub few_turns : turn_count (flat_map (λ turns. turns) listed) ≤ 1000000
  pub shards : script.shards ≡ counts.shards
  pub stores : script.stores ≡ counts.stores
  pub commands : script.commands ≡ grouped (orders_in orders)
  -- no stop is built
  pub stops : script.stops ≡ []
  pub turned : script.turns ≡ client_turns (flat_map (λ turns. turns) listed)
