-- A script of the form has rising clients, commands that are built, and turns of these clients.
use Rattle.std.proofs.Common.{◌≡◌, ℕ, ◌<◌, ◌≤◌, nat_le, ◌==◌, Bool, true, false, cond, ◌&&◌, List, [], ◌∷◌, ◌++◌, refl, ap, ◌∙◌, arith, Option, Some, None, Ok}
use Rattle.std.specs.List.{All, list_all}
use Rattle.std.proofs.lemmas.List.Elements.{All-nil, All-cons, All-head, All-tail, All-weaker}
use Rattle.std.proofs.lemmas.List.Folds.{list_all-append}
use Rattle.next_ids.specs.declared.ids.Client.{Client}
use Rattle.next_walk.specs.declared.command.Command.{Command}
use Rattle.next_grammar.specs.declared.order.Order.{Order}
use Rattle.next_grammar.specs.declared.turns.ListedTurns.{ListedTurns}
use Rattle.next_setup.specs.declared.script.Script.{Script}
use Rattle.next_setup.specs.Built.{is_built, are_built}
use Rattle.next_script.specs.Forms.{MaySayOrder, MaySayTurns, Each, orders_in, grouped_from, grouped, IsCount, IsScript}
use Rattle.next_setup.specs.Lists.{with_command}
use Rattle.next_script.specs.Outcomes.{are_turns_of, IsInForm}
use Rattle.next_script.specs.Scripts.{client_turns, script_of}
use Rattle.next_script.proofs.Accepted.{script_of-accepted}
use Rattle.next_script.proofs.Turning.{flat, client_turns-append, turns-members, count_in-turns}
use Rattle.next_script.proofs.Ranges.{places_said-range, order_said-range}
use Rattle.next_script.proofs.Rising.{IsOfClient, rises_from-grouped}
use Rattle.next_script.proofs.Choices.{and-left, and-right, and-both}

-- ---- the orders of a form
record IsGood (order : Order) : Type 0 where
  pub low : 0 < order.client.0
  pub high : order.client.0 ≤ 32
  pub built : is_built order.command ≡ true

orders-good : (texts : List (List ℕ)) (orders : List (Option Order)) → Each MaySayOrder texts orders → All IsGood (orders_in orders)
orders-good [] [] each = All-nil IsGood
orders-good [] (o ∷ os) each = absurd each
orders-good (t ∷ ts) [] each = absurd each
orders-good (t ∷ ts) (None ∷ os) each = orders-good ts os each.1
orders-good (t ∷ ts) (Some order ∷ os) each =
    let says = each.0 in
    let range = order_said-range says.behind order says.said in
    All-cons IsGood order (orders_in os) (record { low = range.0; high = range.1; built = says.built }) (orders-good ts os each.1)

-- ---- commands put in one after another
with_command-built : (lists : List (Client × List Command)) (c : Client) (x : Command) → is_built x ≡ true → list_all are_built lists ≡ true → list_all are_built (with_command lists c x) ≡ true
with_command-built [] c x built all = and-both (is_built x && true) true (and-both (is_built x) true built refl) refl
with_command-built (l ∷ ls) c x built all = by_test (nat_le c.0 l.0.0) (l.0.0 == c.0) (with_command-built ls c x built rest)
  where
    here : list_all is_built l.1 ≡ true
    here = and-left (are_built l) (list_all are_built ls) all

    rest : list_all are_built ls ≡ true
    rest = and-right (are_built l) (list_all are_built ls) all

    more : list_all is_built (l.1 ++ x ∷ []) ≡ true
    more = list_all-append is_built l.1 (x ∷ []) ∙ and-both (list_all is_built l.1) (is_built x && true) here (and-both (is_built x) true built refl)

    by_test : (b e : Bool) → list_all are_built (with_command ls c x) ≡ true → list_all are_built (cond b (cond e ((l.0, l.1 ++ x ∷ []) ∷ ls) ((c, x ∷ []) ∷ l ∷ ls)) (l ∷ with_command ls c x)) ≡ true
    by_test true true behind = and-both (list_all is_built (l.1 ++ x ∷ [])) (list_all are_built ls) more rest
    by_test true false behind = and-both (is_built x && true) (are_built l && list_all are_built ls) (and-both (is_built x) true built refl) all
    by_test false e behind = and-both (are_built l) (list_all are_built (with_command ls c x)) here behind

grouped-built : (lists : List (Client × List Command)) (orders : List Order) → list_all are_built lists ≡ true → All IsGood orders → list_all are_built (grouped_from lists orders) ≡ true
grouped-built lists [] built each = built
grouped-built lists (o ∷ os) built each =
    let h = All-head IsGood o os each in
    grouped-built (with_command lists o.client o.command) os (with_command-built lists o.client o.command h.built built) (All-tail IsGood o os each)

-- ---- the turns of all lines
all_turns-members : (commands : List (Client × List Command)) (texts : List (List ℕ)) (listed : List (List ListedTurns)) → Each (MaySayTurns commands) texts listed → list_all (are_turns_of commands) (client_turns (flat listed)) ≡ true
all_turns-members commands [] [] each = refl
all_turns-members commands [] (l ∷ ls) each = absurd each
all_turns-members commands (t ∷ ts) [] each = absurd each
all_turns-members commands (t ∷ ts) ([] ∷ ls) each = all_turns-members commands ts ls each.1
all_turns-members commands (t ∷ ts) ((x ∷ xs) ∷ ls) each =
    let says = each.0 in
    ap (list_all (are_turns_of commands)) (client_turns-append (x ∷ xs) (flat ls))
    ∙ list_all-append (are_turns_of commands) (client_turns (x ∷ xs)) (client_turns (flat ls))
    ∙ and-both (list_all (are_turns_of commands) (client_turns (x ∷ xs))) (list_all (are_turns_of commands) (client_turns (flat ls))) (turns-members commands (x ∷ xs) says.clients) (all_turns-members commands ts ls each.1)

-- ---- the whole form
form-in_form : (bytes : List ℕ) (script : Script) → IsScript bytes script → IsInForm script
form-in_form bytes script h = record {
  shards = rw h.shards counts.0;
  stores = rw h.stores counts.1;
  rising = rw h.commands (rises_from-grouped [] (orders_in h.orders) refl (All-weaker IsGood IsOfClient (λ order g. (g.low, g.high)) (orders_in h.orders) good));
  built = rw h.commands (grouped-built [] (orders_in h.orders) refl good);
  members = rw (h.commands, h.turned) (all_turns-members (grouped (orders_in h.orders)) h.turn_texts h.listed h.each_turns);
  few = rw h.turned (let low = count_in-turns (flat h.listed) in let most = h.few_turns in omega (arith, low, most));
}
  where
    counts : IsCount h.counts.shards × IsCount h.counts.stores
    counts = places_said-range h.places.behind h.counts h.places.said

    good : All IsGood (orders_in h.orders)
    good = orders-good h.order_texts h.orders h.each_order

-- each script that bytes say is in form
pub script_of-in_form : (bytes : List ℕ) (script : Script) → script_of bytes ≡ Ok script → IsInForm script
script_of-in_form bytes script e = form-in_form bytes script (script_of-accepted bytes script e)
