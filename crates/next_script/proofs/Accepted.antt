-- What is read as a script is in the form.
use Rattle.std.proofs.Common.{◌≡◌, ℕ, ◌+◌, ◌<◌, ◌≤◌, Bool, true, false, cond, List, [], ◌∷◌, ◌++◌, length, length-append, refl, ap, sym, ◌∙◌, append_assoc, append-nil, arith, Option, Some, None, Ok}
use Rattle.std.specs.List.{All}
use Rattle.std.proofs.lemmas.List.Elements.{All-nil, All-cons, All-head, All-same}
use Rattle.next_ids.specs.declared.ids.Actor.{Actor}
use Rattle.next_ids.specs.declared.ids.Client.{Client}
use Rattle.next_walk.specs.declared.command.Command.{Command}
use Rattle.next_grammar.specs.declared.line.Counts.{Counts}
use Rattle.next_grammar.specs.declared.order.Order.{Order}
use Rattle.next_grammar.specs.declared.turns.ListedActor.{ListedActor}
use Rattle.next_grammar.specs.declared.turns.ListedActor.TheVariants.{Client as ListedClient, Renamer, Collector}
use Rattle.next_grammar.specs.declared.turns.ListedTurns.{ListedTurns}
use Rattle.next_script.specs.declared.reading.Reading.{Reading}
use Rattle.next_setup.specs.declared.script.Script.{Script}
use Rattle.next_script.specs.Forms.{IsSilent, IsListedIn, SaysPlaces, SaysOrder, SaysTurns, MaySayOrder, MaySayTurns, Each, orders_in, grouped_from, lists_in, texts, all_lines, IsScript}
use Rattle.next_script.specs.Pieces.{lines, rest_of_lines}
use Rattle.next_script.specs.Scripts.{is_list, start, ordered, turned, turn_count, turns_of, client_turns, script_of}
use Rattle.next_script.proofs.Turning.{flat, AreListedIn, client_turns-append, turn_count-append}
use Rattle.next_script.proofs.Texts.{HasRoom, Step, silent, order_line, turns_of_line, with_text-step, Opening, still, places_line, with_text-opening}
use Rattle.next_script.proofs.Through.{IsShort, Goes, lines_of, texts_of, all_lines-are, texts-are, IsThrough, script_of-whole}

-- what was read so far is within the limits
record IsFew (r : Reading) : Type 0 where
  pub orders : r.commands ≤ 65536
  pub lists : r.lists ≤ 128
  pub turns : r.turns ≤ 1000000

-- ---- the texts that lead from one reading to another, behind `places`
pub record IsBehind (r last : Reading) (texts : List (List ℕ)) : Type 0 where
  pub order_texts : List (List ℕ)
  pub orders : List (Option Order)
  pub turn_texts : List (List ℕ)
  pub listed : List (List ListedTurns)
  pub texts_are : texts ≡ order_texts ++ turn_texts
  pub each_order : Each MaySayOrder order_texts orders
  pub each_turns : Each (MaySayTurns last.script.commands) turn_texts listed
  -- no order behind turns
  pub late : 0 < length r.script.turns → orders_in orders ≡ []
  pub shards : last.script.shards ≡ r.script.shards
  pub stores : last.script.stores ≡ r.script.stores
  pub commands : last.script.commands ≡ grouped_from r.script.commands (orders_in orders)
  pub stops : last.script.stops ≡ r.script.stops
  pub turned : last.script.turns ≡ r.script.turns ++ client_turns (flat listed)
  pub few_orders : r.commands + length (orders_in orders) ≤ 65536
  pub few_lists : r.lists + lists_in (orders_in orders) ≤ 128
  pub few_turns : r.turns + turn_count (flat listed) ≤ 1000000

no_texts : (r : Reading) → IsFew r → IsBehind r r []
no_texts r few = record {
  order_texts = [];
  orders = [];
  turn_texts = [];
  listed = [];
  texts_are = refl;
  each_order = tt;
  each_turns = tt;
  late = λ some. refl;
  shards = refl;
  stores = refl;
  commands = refl;
  stops = refl;
  turned = sym (append-nil r.script.turns);
  few_orders = (let h = few.orders in omega arith);
  few_lists = (let h = few.lists in omega arith);
  few_turns = (let h = few.turns in omega arith);
}

-- a text that says nothing stands before the others
behind-silent : (r last : Reading) (text : List ℕ) (texts : List (List ℕ)) → IsSilent text → IsBehind r last texts → IsBehind r last (text ∷ texts)
behind-silent r last text texts says h = record {
  order_texts = text ∷ h.order_texts;
  orders = None ∷ h.orders;
  turn_texts = h.turn_texts;
  listed = h.listed;
  texts_are = ap (λ (l : List (List ℕ)). text ∷ l) h.texts_are;
  each_order = (says, h.each_order);
  each_turns = h.each_turns;
  late = h.late;
  shards = h.shards;
  stores = h.stores;
  commands = h.commands;
  stops = h.stops;
  turned = h.turned;
  few_orders = h.few_orders;
  few_lists = h.few_lists;
  few_turns = h.few_turns;
}

behind-order : (r last : Reading) (text : List ℕ) (texts : List (List ℕ)) (order : Order) → SaysOrder text order → HasRoom r order → IsBehind (ordered r order) last texts → IsBehind r last (text ∷ texts)
behind-order r last text texts order says room h = record {
  order_texts = text ∷ h.order_texts;
  orders = Some order ∷ h.orders;
  turn_texts = h.turn_texts;
  listed = h.listed;
  texts_are = ap (λ (l : List (List ℕ)). text ∷ l) h.texts_are;
  each_order = (says, h.each_order);
  each_turns = h.each_turns;
  late = λ some. absurd (let none = room.none in omega arith);
  shards = h.shards;
  stores = h.stores;
  commands = h.commands;
  stops = h.stops;
  turned = h.turned;
  few_orders = (let few = h.few_orders in omega (arith, few));
  few_lists = by_kind (is_list order.command) refl h.few_lists;
  few_turns = h.few_turns;
}
  where
    by_kind : (k : Bool) → is_list order.command ≡ k → cond k (r.lists + 1) r.lists + lists_in (orders_in h.orders) ≤ 128 → r.lists + (cond (is_list order.command) 1 0 + lists_in (orders_in h.orders)) ≤ 128
    by_kind true listed few = rw listed (omega (arith, few))
    by_kind false other few = rw other (omega (arith, few))

-- ---- texts without orders may stand among the turns
abbrev blanks : List (List ℕ) → List (List ListedTurns)
blanks [] = []
blanks (text ∷ texts) = [] ∷ blanks texts

among_turns : (commands : List (Client × List Command)) (order_texts : List (List ℕ)) (orders : List (Option Order)) (turn_texts : List (List ℕ)) (listed : List (List ListedTurns)) → Each MaySayOrder order_texts orders → orders_in orders ≡ [] → Each (MaySayTurns commands) turn_texts listed →
    Each (MaySayTurns commands) (order_texts ++ turn_texts) (blanks order_texts ++ listed)
among_turns commands [] [] turn_texts listed each none turns = turns
among_turns commands [] (o ∷ os) turn_texts listed each none turns = absurd each
among_turns commands (t ∷ ts) [] turn_texts listed each none turns = absurd each
among_turns commands (t ∷ ts) (None ∷ os) turn_texts listed each none turns = (each.0, among_turns commands ts os turn_texts listed each.1 none turns)
among_turns commands (t ∷ ts) (Some o ∷ os) turn_texts listed each none turns = cc

flat-blanks : (texts : List (List ℕ)) (listed : List (List ListedTurns)) → flat (blanks texts ++ listed) ≡ flat listed
flat-blanks [] listed = refl
flat-blanks (t ∷ ts) listed = flat-blanks ts listed

-- turns of clients are some
some-turns : (commands : List (Client × List Command)) (before : List (Actor × ℕ)) (t : ListedTurns) (ts : List ListedTurns) → AreListedIn commands (t ∷ ts) → 0 < length (before ++ client_turns (t ∷ ts))
some-turns commands before t ts clients =
    let some = one t.actor (All-head (λ (turns : ListedTurns). IsListedIn commands turns.actor) t ts clients) in
    let parts = length-append before (client_turns (t ∷ ts)) in
    omega (arith, some, parts)
  where
    one : (actor : ListedActor) → IsListedIn commands actor → 0 < length (turns_of actor t.count ++ client_turns ts)
    one (ListedClient c) member = omega arith
    one Renamer member = absurd member
    one Collector member = absurd member

behind-turns : (r last : Reading) (text : List ℕ) (texts : List (List ℕ)) (t : ListedTurns) (ts : List ListedTurns) → SaysTurns r.script.commands text (t ∷ ts) → IsBehind (turned r (t ∷ ts)) last texts → IsBehind r last (text ∷ texts)
behind-turns r last text texts t ts says h = record {
  order_texts = [];
  orders = [];
  turn_texts = text ∷ (h.order_texts ++ h.turn_texts);
  listed = (t ∷ ts) ∷ (blanks h.order_texts ++ h.listed);
  texts_are = ap (λ (l : List (List ℕ)). text ∷ l) h.texts_are;
  each_order = tt;
  each_turns = (rw same says, among_turns last.script.commands h.order_texts h.orders h.turn_texts h.listed h.each_order none h.each_turns);
  late = λ some. refl;
  shards = h.shards;
  stores = h.stores;
  commands = same;
  stops = h.stops;
  turned = h.turned ∙ append_assoc r.script.turns (client_turns (t ∷ ts)) (client_turns (flat h.listed)) ∙ ap (λ (l : List (Actor × ℕ)). r.script.turns ++ l) (sym (client_turns-append (t ∷ ts) (flat h.listed)) ∙ ap client_turns all_turns);
  few_orders = few_orders;
  few_lists = few_lists;
  few_turns = few_turns;
}
  where
    none : orders_in h.orders ≡ []
    none = h.late (some-turns r.script.commands r.script.turns t ts says.clients)

    same : last.script.commands ≡ r.script.commands
    same = h.commands ∙ ap (grouped_from r.script.commands) none

    all_turns : (t ∷ ts) ++ flat h.listed ≡ flat ((t ∷ ts) ∷ (blanks h.order_texts ++ h.listed))
    all_turns = ap (λ (l : List ListedTurns). (t ∷ ts) ++ l) (sym (flat-blanks h.order_texts h.listed))

    few_orders : r.commands + 0 ≤ 65536
    few_orders = let few = h.few_orders in omega (arith, few)

    few_lists : r.lists + 0 ≤ 128
    few_lists = let few = h.few_lists in omega (arith, few)

    few_turns : r.turns + turn_count (flat ((t ∷ ts) ∷ (blanks h.order_texts ++ h.listed))) ≤ 1000000
    few_turns =
        let few = h.few_turns in
        let parts = turn_count-append (t ∷ ts) (flat h.listed) in
        let whole = ap turn_count all_turns in
        omega (arith, few, parts, whole)

-- ---- all texts behind `places`
goes-behind : (texts : List (List ℕ)) (r last : Reading) → IsFew r → Goes (Some r) texts (Some last) → IsBehind r last texts
goes-behind [] r last few g = let same : r ≡ last = cc in rw (← same) (no_texts r few)
goes-behind (text ∷ texts) r last few g = by_step (with_text-step r text g.0 g.1) (λ s among h. goes-behind texts s last among (rw h at g.2))
  where
    by_step : Step r text g.0 → ((s : Reading) → IsFew s → g.0 ≡ Some s → IsBehind s last texts) → IsBehind r last (text ∷ texts)
    by_step (silent says is) go = behind-silent r last text texts says (go r few is)
    by_step (order_line order says room is) go = behind-order r last text texts order says room (go (ordered r order) (ordered-few (is_list order.command) refl) is)
      where
        ordered-few : (k : Bool) → is_list order.command ≡ k → IsFew (ordered r order)
        ordered-few true listed = record {
          orders = (let low = room.few in omega arith);
          lists = (let low = room.rare listed in rw listed (omega arith));
          turns = few.turns;
        }
        ordered-few false other = record {
          orders = (let low = room.few in omega arith);
          lists = rw other few.lists;
          turns = few.turns;
        }
    by_step (turns_of_line t ts says low is) go = behind-turns r last text texts t ts says (go (turned r (t ∷ ts)) (record { orders = few.orders; lists = few.lists; turns = low }) is)

-- ---- all texts
record IsOpened (last : Reading) (texts : List (List ℕ)) : Type 0 where
  pub heads : List (List ℕ)
  pub opening : List ℕ
  pub counts : Counts
  pub more : List (List ℕ)
  pub texts_are : texts ≡ heads ++ opening ∷ more
  pub silent_heads : All IsSilent heads
  pub places : SaysPlaces opening counts
  pub behind : IsBehind (start counts) last more

goes-opened : (texts : List (List ℕ)) (last : Reading) → Goes None texts (Some last) → IsOpened last texts
goes-opened [] last g = cc
goes-opened (text ∷ texts) last g = by_opening (with_text-opening text g.0 g.1) (λ h. goes-opened texts last (rw h at g.2))
  where
    by_opening : Opening text g.0 → (g.0 ≡ None → IsOpened last texts) → IsOpened last (text ∷ texts)
    by_opening (still says is) go = let h = go is in record {
      heads = text ∷ h.heads;
      opening = h.opening;
      counts = h.counts;
      more = h.more;
      texts_are = ap (λ (l : List (List ℕ)). text ∷ l) h.texts_are;
      silent_heads = All-cons IsSilent text h.heads says h.silent_heads;
      places = h.places;
      behind = h.behind;
    }
    by_opening (places_line counts says is) go = record {
      heads = [];
      opening = text;
      counts = counts;
      more = texts;
      texts_are = refl;
      silent_heads = All-nil IsSilent;
      places = says;
      behind = goes-behind texts (start counts) last (record { orders = omega arith; lists = omega arith; turns = omega arith }) (rw is at g.2);
    }

form-from_opened : (bytes : List ℕ) (script : Script) → length bytes ≤ 4194304 → (t : IsThrough None (lines bytes) (rest_of_lines bytes) script) → IsOpened t.last (texts_of (lines bytes) (rest_of_lines bytes)) → IsScript bytes script
form-from_opened bytes script few t o = let b = o.behind in record {
  heads = o.heads;
  opening = o.opening;
  counts = o.counts;
  order_texts = b.order_texts;
  orders = b.orders;
  turn_texts = b.turn_texts;
  listed = b.listed;
  lines = texts-are bytes ∙ o.texts_are ∙ ap (λ (l : List (List ℕ)). o.heads ++ o.opening ∷ l) b.texts_are;
  silent = o.silent_heads;
  places = o.places;
  each_order = b.each_order;
  each_turns = rw b.commands at b.each_turns;
  few_bytes = few;
  short_lines = All-same IsShort (all_lines bytes) (lines_of (lines bytes) (rest_of_lines bytes)) (all_lines-are bytes) t.short;
  few_orders = (let low = b.few_orders in omega (arith, low));
  few_lists = (let low = b.few_lists in omega (arith, low));
  few_turns = (let low = b.few_turns in omega (arith, low));
  shards = ap (λ (s : Script). s.shards) (sym t.is) ∙ b.shards;
  stores = ap (λ (s : Script). s.stores) (sym t.is) ∙ b.stores;
  commands = ap (λ (s : Script). s.commands) (sym t.is) ∙ b.commands;
  stops = ap (λ (s : Script). s.stops) (sym t.is) ∙ b.stops;
  turned = ap (λ (s : Script). s.turns) (sym t.is) ∙ b.turned;
}

pub script_of-accepted : (bytes : List ℕ) (script : Script) → script_of bytes ≡ Ok script → IsScript bytes script
script_of-accepted bytes script e =
    let w = script_of-whole bytes script e in
    form-from_opened bytes script w.few w.through (goes-opened (texts_of (lines bytes) (rest_of_lines bytes)) w.through.last w.through.goes)
