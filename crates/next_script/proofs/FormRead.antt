-- Each text of the form is read as its script.
use Rattle.std.proofs.Common.{◌≡◌, ℕ, ◌+◌, ◌<◌, ◌≤◌, Bool, true, false, cond, List, [], ◌∷◌, ◌++◌, length, refl, ap, sym, ◌∙◌, append_assoc, append-nil, arith, Option, Some, None, Ok}
use Rattle.std.specs.List.{All}
use Rattle.std.proofs.lemmas.List.Elements.{All-head, All-tail, All-same}
use Rattle.next_ids.specs.declared.ids.Actor.{Actor}
use Rattle.next_ids.specs.declared.ids.Client.{Client}
use Rattle.next_walk.specs.declared.command.Command.{Command}
use Rattle.next_grammar.specs.declared.order.Order.{Order}
use Rattle.next_grammar.specs.declared.turns.ListedTurns.{ListedTurns}
use Rattle.next_script.specs.declared.reading.Reading.{Reading}
use Rattle.next_setup.specs.declared.script.Script.{Script}
use Rattle.next_script.specs.Forms.{IsSilent, MaySayOrder, MaySayTurns, Each, orders_in, grouped_from, grouped, lists_in, texts, all_lines, IsScript}
use Rattle.next_script.specs.Pieces.{lines, rest_of_lines}
use Rattle.next_script.specs.Scripts.{is_list, start, ordered, turned, turn_count, client_turns, script_of}
use Rattle.next_script.proofs.Turning.{flat, client_turns-append, turn_count-append}
use Rattle.next_script.proofs.Texts.{silent-text, places-text, order-text, turns-text}
use Rattle.next_script.proofs.Through.{IsShort, Goes, Goes-append, lines_of, texts_of, all_lines-are, texts-are, script_of-goes}

-- ---- texts that say nothing
pub silent-goes : (s : Option Reading) (texts : List (List ℕ)) → All IsSilent texts → Goes s texts s
silent-goes s [] each = refl
silent-goes s (text ∷ texts) each = (s, silent-text s text (All-head IsSilent text texts each), silent-goes s texts (All-tail IsSilent text texts each))

-- ---- the reading with these orders behind its own
abbrev all_ordered : Reading → List Order → Reading
all_ordered r [] = r
all_ordered r (order ∷ orders) = all_ordered (ordered r order) orders

-- a script with these commands and turns in place of its own
abbrev holding : Script → List (Client × List Command) → List (Actor × ℕ) → Script
holding script commands turns = record script { commands = commands; turns = turns }

all_ordered-script : (r : Reading) (orders : List Order) → (all_ordered r orders).script ≡ holding r.script (grouped_from r.script.commands orders) r.script.turns
all_ordered-script r [] = refl
all_ordered-script r (order ∷ orders) = all_ordered-script (ordered r order) orders

all_ordered-turns : (r : Reading) (orders : List Order) → (all_ordered r orders).turns ≡ r.turns
all_ordered-turns r [] = refl
all_ordered-turns r (order ∷ orders) = all_ordered-turns (ordered r order) orders

orders-go : (r : Reading) (texts : List (List ℕ)) (orders : List (Option Order)) → Each MaySayOrder texts orders → length r.script.turns ≡ 0 → r.commands + length (orders_in orders) ≤ 65536 → r.lists + lists_in (orders_in orders) ≤ 128 →
    Goes (Some r) texts (Some (all_ordered r (orders_in orders)))
orders-go r [] [] each none few rare = refl
orders-go r [] (o ∷ os) each none few rare = absurd each
orders-go r (t ∷ ts) [] each none few rare = absurd each
orders-go r (t ∷ ts) (None ∷ os) each none few rare = (Some r, silent-text (Some r) t each.0, orders-go r ts os each.1 none few rare)
orders-go r (t ∷ ts) (Some order ∷ os) each none few rare =
    (Some (ordered r order), order-text r t order each.0 (record { none = none; few = omega arith; rare = room }), orders-go (ordered r order) ts os each.1 none (omega arith) (fewer (is_list order.command) refl))
  where
    room : is_list order.command ≡ true → r.lists < 128
    room listed = let one : lists_in (order ∷ orders_in os) ≡ 1 + lists_in (orders_in os) = ap (λ (b : Bool). cond b 1 0 + lists_in (orders_in os)) listed in omega (arith, rare, one)

    fewer : (b : Bool) → is_list order.command ≡ b → cond b (r.lists + 1) r.lists + lists_in (orders_in os) ≤ 128
    fewer true listed = let one : lists_in (order ∷ orders_in os) ≡ 1 + lists_in (orders_in os) = ap (λ (b : Bool). cond b 1 0 + lists_in (orders_in os)) listed in omega (arith, rare, one)
    fewer false other = let same : lists_in (order ∷ orders_in os) ≡ 0 + lists_in (orders_in os) = ap (λ (b : Bool). cond b 1 0 + lists_in (orders_in os)) other in omega (arith, rare, same)

-- ---- the reading with these turns behind its own
record IsTurned (r : Reading) (texts : List (List ℕ)) (turns : List ListedTurns) : Type 0 where
  pub last : Reading
  pub goes : Goes (Some r) texts (Some last)
  pub is : last.script ≡ holding r.script r.script.commands (r.script.turns ++ client_turns turns)

turns-go : (r : Reading) (texts : List (List ℕ)) (listed : List (List ListedTurns)) → Each (MaySayTurns r.script.commands) texts listed → r.turns + turn_count (flat listed) ≤ 1000000 → IsTurned r texts (flat listed)
turns-go r [] [] each few = record { last = r; goes = refl; is = ap (λ (l : List (Actor × ℕ)). holding r.script r.script.commands l) (sym (append-nil r.script.turns)) }
turns-go r [] (l ∷ ls) each few = absurd each
turns-go r (t ∷ ts) [] each few = absurd each
turns-go r (t ∷ ts) ([] ∷ ls) each few = let h = turns-go r ts ls each.1 few in record { last = h.last; goes = (Some r, silent-text (Some r) t each.0, h.goes); is = h.is }
turns-go r (t ∷ ts) ((x ∷ xs) ∷ ls) each few =
    let parts : turn_count (flat ((x ∷ xs) ∷ ls)) ≡ turn_count (x ∷ xs) + turn_count (flat ls) = turn_count-append (x ∷ xs) (flat ls) in
    let low : r.turns + turn_count (x ∷ xs) ≤ 1000000 = omega (arith, few, parts) in
    let rest : (r.turns + turn_count (x ∷ xs)) + turn_count (flat ls) ≤ 1000000 = omega (arith, few, parts) in
    let h = turns-go (turned r (x ∷ xs)) ts ls each.1 rest in record {
      last = h.last;
      goes = (Some (turned r (x ∷ xs)), turns-text r t x xs each.0 low, h.goes);
      is = h.is ∙ ap (λ (l : List (Actor × ℕ)). holding r.script r.script.commands l) (
          append_assoc r.script.turns (client_turns (x ∷ xs)) (client_turns (flat ls))
          ∙ ap (λ (l : List (Actor × ℕ)). r.script.turns ++ l) (sym (client_turns-append (x ∷ xs) (flat ls))));
    }

-- ---- the whole text
same_script : (a b : Script) → a.shards ≡ b.shards → a.stores ≡ b.stores → a.commands ≡ b.commands → a.stops ≡ b.stops → a.turns ≡ b.turns → a ≡ b
same_script a b p q r t s = λ i. record { shards = p i; stores = q i; commands = r i; stops = t i; turns = s i }

-- the reading behind the orders
abbrev middle : {bytes : List ℕ} {script : Script} → IsScript bytes script → Reading
middle h = all_ordered (start h.counts) (orders_in h.orders)

turns-behind : (bytes : List ℕ) (script : Script) (h : IsScript bytes script) → IsTurned (middle h) h.turn_texts (flat h.listed)
turns-behind bytes script h = turns-go (middle h) h.turn_texts h.listed each few
  where
    commands : (middle h).script.commands ≡ grouped (orders_in h.orders)
    commands = ap (λ (s : Script). s.commands) (all_ordered-script (start h.counts) (orders_in h.orders))

    each : Each (MaySayTurns (middle h).script.commands) h.turn_texts h.listed
    each = rw commands h.each_turns

    few : (middle h).turns + turn_count (flat h.listed) ≤ 1000000
    few = let none = all_ordered-turns (start h.counts) (orders_in h.orders) in let low = h.few_turns in omega (arith, none, low)

form-goes : (bytes : List ℕ) (script : Script) (h : IsScript bytes script) → Goes None (h.heads ++ h.opening ∷ (h.order_texts ++ h.turn_texts)) (Some (turns-behind bytes script h).last)
form-goes bytes script h =
    Goes-append None h.heads (h.opening ∷ (h.order_texts ++ h.turn_texts)) None (Some (turns-behind bytes script h).last) (silent-goes None h.heads h.silent) (
      Some (start h.counts),
      places-text h.opening h.counts h.places,
      Goes-append (Some (start h.counts)) h.order_texts h.turn_texts (Some (middle h)) (Some (turns-behind bytes script h).last)
          (orders-go (start h.counts) h.order_texts h.orders h.each_order refl few rare) (turns-behind bytes script h).goes,
    )
  where
    few : 0 + length (orders_in h.orders) ≤ 65536
    few = let low = h.few_orders in omega (arith, low)

    rare : 0 + lists_in (orders_in h.orders) ≤ 128
    rare = let low = h.few_lists in omega (arith, low)

form-script : (bytes : List ℕ) (script : Script) (h : IsScript bytes script) → (turns-behind bytes script h).last.script ≡ script
form-script bytes script h = is ∙ same_script (holding (middle h).script (middle h).script.commands ((middle h).script.turns ++ client_turns (flat h.listed))) script shards stores commands stops turns
  where
    is : (turns-behind bytes script h).last.script ≡ holding (middle h).script (middle h).script.commands ((middle h).script.turns ++ client_turns (flat h.listed))
    is = (turns-behind bytes script h).is

    mid : (middle h).script ≡ holding (start h.counts).script (grouped (orders_in h.orders)) []
    mid = all_ordered-script (start h.counts) (orders_in h.orders)

    shards : (middle h).script.shards ≡ script.shards
    shards = ap (λ (s : Script). s.shards) mid ∙ sym h.shards

    stores : (middle h).script.stores ≡ script.stores
    stores = ap (λ (s : Script). s.stores) mid ∙ sym h.stores

    commands : (middle h).script.commands ≡ script.commands
    commands = ap (λ (s : Script). s.commands) mid ∙ sym h.commands

    stops : (middle h).script.stops ≡ script.stops
    stops = ap (λ (s : Script). s.stops) mid ∙ sym h.stops

    turns : (middle h).script.turns ++ client_turns (flat h.listed) ≡ script.turns
    turns = ap (λ (s : Script). s.turns ++ client_turns (flat h.listed)) mid ∙ sym h.turned

pub script_of-form : (bytes : List ℕ) (script : Script) → IsScript bytes script → script_of bytes ≡ Ok script
script_of-form bytes script h =
    script_of-goes bytes (Some (turns-behind bytes script h).last) h.few_bytes goes short ∙ ap (λ (s : Script). Ok s) (form-script bytes script h)
  where
    whole : texts_of (lines bytes) (rest_of_lines bytes) ≡ h.heads ++ h.opening ∷ (h.order_texts ++ h.turn_texts)
    whole = sym (texts-are bytes) ∙ h.lines

    goes : Goes None (texts_of (lines bytes) (rest_of_lines bytes)) (Some (turns-behind bytes script h).last)
    goes = rw whole (form-goes bytes script h)

    short : All IsShort (lines_of (lines bytes) (rest_of_lines bytes))
    short = All-same IsShort (lines_of (lines bytes) (rest_of_lines bytes)) (all_lines bytes) (sym (all_lines-are bytes)) h.short_lines
