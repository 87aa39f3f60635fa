-- Orders keep the clients rising.
use Rattle.std.proofs.Common.{◌<◌, ◌≤◌, List, [], ◌∷◌}
use Rattle.std.specs.Prelude.{IsTrue}
use Rattle.std.specs.List.{All}
use Rattle.std.proofs.lemmas.List.Elements.{All-head, All-tail}
use Rattle.next_ids.specs.declared.ids.Client.{Client}
use Rattle.next_walk.specs.declared.command.Command.{Command}
use Rattle.next_grammar.specs.declared.order.Order.{Order}
use Rattle.next_setup.specs.Lists.{rises_from, with_command}
use Rattle.next_setup.proofs.Rising.{rises_from-with_command}
use Rattle.next_script.specs.Forms.{grouped_from}

-- the order is of a client from 1 to 32
abbrev pub IsOfClient : Order → Type 0
IsOfClient order = (0 < order.client.0) × (order.client.0 ≤ 32)

-- orders of such clients, put in one after another
pub rises_from-grouped : (lists : List (Client × List Command)) (orders : List Order) → IsTrue (rises_from 0 lists) → All IsOfClient orders → IsTrue (rises_from 0 (grouped_from lists orders))
rises_from-grouped lists [] rises each = rises
rises_from-grouped lists (o ∷ orders) rises each =
    let h = All-head IsOfClient o orders each in
    rises_from-grouped (with_command lists o.client o.command) orders (rises_from-with_command 0 lists o.client o.command h.0 h.1 rises) (All-tail IsOfClient o orders each)
