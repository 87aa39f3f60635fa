-- The places that clients ask are there.
use Rattle.std.specs.Prelude.{◌≡◌, ℕ, ◌%◌, List, Bool, true, ◌&&◌, nat_lt, Option, Some, None}
use Rattle.std.specs.List.{list_all}
use Rattle.std.specs.Coded.{Coded-set, coded_bool, ×_prop, Π_prop, Unit-prop}
use Rattle.std.specs.FinMap.{get}
use Rattle.cfs_ids.specs.declared.ids.DirId.{DirId}
use Rattle.cfs_ids.specs.declared.ids.Node.{Node}
use Rattle.cfs_ids.specs.declared.ids.Node.TheVariants.{Dir, File}
use Rattle.cfs_ids.specs.declared.ids.PlaceNo.{PlaceNo}
use Rattle.cfs_ids.specs.declared.call.Call.{Call}
use Rattle.cfs_ids.specs.declared.call.Reply.{Reply}
use Rattle.cfs_ids.specs.declared.call.Reply.TheVariants.{Node as NodeReply}
use Rattle.cfs_steps.specs.declared.contents.Row.{Row}
use Rattle.cfs_steps.specs.Phases.{Phase, Asking, Inserting, Settling, TakingBack, Finished, has_steps}
use Rattle.cfs_rules.specs.Places.{Shard}
use Rattle.cfs_rules.specs.Worlds.{Plan, Ends, Calls, Counts, Progress, dir_of}
use Rattle.cfs_view.specs.Held.{has_place}

abbrev pub dir_there : Counts → DirId → Bool
dir_there counts dir = nat_lt (dir.0 % 64) counts.shards

abbrev pub node_there : Counts → Node → Bool
node_there counts (Dir dir) = dir_there counts dir
node_there counts (File file) = nat_lt (file.0 % 64) counts.stores

-- the node of each row is there
abbrev pub RowsThere : Counts → Shard → Type 0
RowsThere counts shard = (key : List ℕ) (row : Row) → get shard.rows key ≡ Some row → node_there counts row.node ≡ true

-- the steps of the call are built, and its directory is there
abbrev pub call_there : Counts → Call → Bool
call_there counts call = has_steps call && dir_there counts (dir_of call)

-- a node that the reply tells is there
abbrev pub reply_there : Counts → Reply → Bool
reply_there counts (NodeReply node) = node_there counts node
reply_there counts reply = true

abbrev pub phase_there : Counts → Phase → Bool
phase_there counts (Asking call) = call_there counts call
phase_there counts (Inserting dir name node ts first) = dir_there counts dir && node_there counts node
phase_there counts (Settling dir name node ts first at) = node_there counts node
phase_there counts (TakingBack dir name node errno first at) = node_there counts node
phase_there counts (Finished done) = reply_there counts done.reply

abbrev pub current_there : Counts → Option Phase → Bool
current_there counts None = true
current_there counts (Some phase) = phase_there counts phase

-- each call of the plan is there, while the nodes that replies tell are
abbrev pub PlanThere : Counts → Plan → Type 0
PlanThere counts Ends = Unit {0}
PlanThere counts (Calls call next) = (call_there counts call ≡ true) × ((reply : Reply) → reply_there counts reply ≡ true → PlanThere counts (next reply))

-- that they are has one proof at most, so it may be kept with the clients
pub PlanThere-prop : (counts : Counts) (plan : Plan) → IsProp (PlanThere counts plan)
PlanThere-prop counts Ends = Unit-prop
PlanThere-prop counts (Calls call next) = ×_prop (Coded-set coded_bool (call_there counts call) true) (Π_prop (λ reply. Π_prop (λ told. PlanThere-prop counts (next reply))))

pub record ProgressThere (counts : Counts) (p : Progress) : Type 0 where
  pub current : current_there counts p.current ≡ true
  pub rest : (reply : Reply) → reply_there counts reply ≡ true → PlanThere counts (p.rest reply)

-- each place of the list is there
abbrev pub places_there : Counts → List PlaceNo → Bool
places_there counts places = list_all (λ (place : PlaceNo). has_place counts place.0) places
