-- What is known of a setup: its counts, and that clients call on what they were told of.
use Rattle.std.specs.Prelude.{◌≡◌, ℕ, ◌+◌, ◌≤◌, nat_le, nat_lt, ◌==◌, ◌||◌, ◌&&◌, List, [], ◌∷◌, Bool, true}
use Rattle.std.specs.List.{list_any, list_all}
use Rattle.next_ids.specs.declared.ids.Node.{Node}
use Rattle.next_ids.specs.declared.ids.Node.TheVariants.{Dir, File}
use Rattle.next_ids.specs.declared.call.Call.{Call}
use Rattle.next_ids.specs.declared.call.Call.TheVariants.{Lookup, List as ListCall, StatRoot, Stat, Create, Mkdir, Unlink, Rmdir, Truncate, Rename}
use Rattle.next_ids.specs.declared.call.Reply.{Reply}
use Rattle.next_ids.specs.declared.call.Reply.TheVariants.{Node as NodeReply}
use Rattle.next_ids.specs.Namespace.{is_node}
use Rattle.next_ids.specs.declared.counts.Counts.{Counts}
use Rattle.next_rules.specs.Actors.{Plan, Ends, Calls}
use Rattle.next_rules.specs.Worlds.{Setup}

-- the nodes that a call is on
abbrev pub nodes_of : Call → List Node
nodes_of (Lookup dir name) = Dir dir ∷ []
nodes_of (ListCall dir) = Dir dir ∷ []
nodes_of StatRoot = []
nodes_of (Stat dir name) = Dir dir ∷ []
nodes_of (Create dir name) = Dir dir ∷ []
nodes_of (Mkdir dir name) = Dir dir ∷ []
nodes_of (Unlink dir name) = Dir dir ∷ []
nodes_of (Rmdir dir name) = Dir dir ∷ []
nodes_of (Truncate file size) = File file ∷ []
nodes_of (Rename dir name to_dir to_name) = Dir dir ∷ Dir to_dir ∷ []

abbrev pub knows : List Node → Node → Bool
knows nodes node = list_any (is_node node) nodes

-- the nodes that a client knows once it has this reply
abbrev pub with_told : Reply → List Node → List Node
with_told (NodeReply node) nodes = node ∷ nodes
with_told reply nodes = nodes

-- the call is on nodes that the client knows
abbrev pub MayAsk : List Node → Call → Type 0
MayAsk nodes call = list_all (knows nodes) (nodes_of call) ≡ true

-- whatever the replies are, each call of the plan is on these nodes, or on those that a reply has told
abbrev pub KeepsTo : List Node → Plan → Type 0
KeepsTo nodes Ends = Unit {0}
KeepsTo nodes (Calls call next) = MayAsk nodes call × ((reply : Reply) → KeepsTo (with_told reply nodes) (next reply))

abbrev pub IsCount : ℕ → Type 0
IsCount n = (1 ≤ n) × (n ≤ 64)

-- 1 to 64 shards, and 1 to 64 stores
pub record AreCounts (counts : Counts) : Type 0 where
  pub shards : IsCount counts.shards
  pub stores : IsCount counts.stores

-- the service has a place with this number: its shards from 0 on, its stores from 64 on, the desk and the roster
abbrev pub has_place : Counts → ℕ → Bool
has_place counts n =
    nat_lt n counts.shards || ((nat_le 64 n && nat_lt n (64 + counts.stores)) || ((n == 128) || (n == 129)))

-- and each client begins with the root alone
pub record IsSetup (setup : Setup) : Type 0 where
  pub counts : AreCounts setup.counts
  pub plans : (c : ℕ) → KeepsTo (Dir (record { 0 = 0 }) ∷ []) (setup.plans c)
