-- What a script's run prints.
use Rattle.std.specs.Prelude.{◌≡◌, ℕ, List, length, map, true}
use Rattle.cfs_ids.specs.declared.ids.Client.{Client}
use Rattle.cfs_ids.specs.Namespace.{IsWhole}
use Rattle.cfs_setup.specs.declared.script.Script.{Script}
use Rattle.cfs_print.specs.declared.printed.Printed.{Printed}
use Rattle.cfs_rules.specs.Facts.{MovesMatch}
use Rattle.cfs_rules.specs.Histories.{lines_of, world_history}
use Rattle.cfs_rules.specs.Legal.{Each, IsLegal, final}
use Rattle.cfs_rules.specs.Trees.{tree, owed_in, strays_in}
use Rattle.cfs_rules.specs.Worlds.{World, Counts, calls_of, client_of, played}
use Rattle.cfs_laws_history.specs.EachLine.{HasEachLine}
use Rattle.cfs_laws_order.specs.OwnSteps.{HasOwnEnds, IsInALine, steps_at}
use Rattle.cfs_steps.specs.declared.call_done.ClientCalls.{ClientCalls}
use Rattle.cfs_walk.specs.declared.command.Command.{Command}
use Rattle.cfs_core.specs.Clients.{number_in}
use Rattle.cfs_core.specs.Opening.{setup_of, members_in}
use Rattle.cfs_setup.specs.Lists.{turns_in}
use Rattle.cfs_run.specs.Replies.{replies_of}

-- the world after the turns of the script
abbrev pub world_after : Script → World
world_after script = played (setup_of script) (map number_in (turns_in script.turns))

-- the calls of the clients of these lists
abbrev pub calls_after : List (Client × List Command) → World → List ClientCalls
calls_after lists w = map (λ c. calls_of (client_of c) (w.clients c)) (members_in lists)

-- What is printed of the world after the turns, for so many shards and stores and for the clients of these lists. Its history
-- is legal and has each move and each call, each line begins and ends at its client's own steps, each step of a client's
-- calls lies in a line of it, the printed tree is the namespace that it ends in, a whole one, and each command has the reply
-- that its calls' replies come to.
pub record IsPrintedOf (counts : Counts) (lists : List (Client × List Command)) (w : World) (printed : Printed) : Type 0 where
  pub legal : IsLegal printed.history
  pub last : final printed.history ≡ printed.tree
  pub whole : IsWhole (final printed.history)
  pub moves : MovesMatch w.run printed.history
  pub calls : HasEachLine printed.history (lines_of w.run (calls_after lists w))
  pub ends : Each (HasOwnEnds w.run) printed.history
  pub own_steps : (c p : ℕ) → steps_at (client_of c) w.run p ≡ true → IsInALine printed.history (client_of c) p
  pub history : printed.history ≡ world_history (members_in lists) w
  pub tree : printed.tree ≡ tree w.shard w.store
  pub replies : printed.replies ≡ replies_of lists (calls_after lists w)
  pub steps : printed.steps ≡ length w.run
  pub owed : printed.tally.owed ≡ owed_in w.shard w.store
  pub debts : printed.tally.debts ≡ 0
  pub marks : printed.tally.marks ≡ 0
  pub strays : printed.tally.strays ≡ strays_in w.shard w.store w.roster
  pub shards : printed.shards ≡ counts.shards
  pub stores : printed.stores ≡ counts.stores

-- this is what the turns of the script come to
abbrev pub IsReplayOf : Script → Printed → Type 0
IsReplayOf script printed = IsPrintedOf (setup_of script).counts script.commands (world_after script) printed
