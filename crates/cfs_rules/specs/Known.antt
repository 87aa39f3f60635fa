-- What a step is known to tell of the tree: the tree is what the moves so far make, each look-up decides the reply, each
-- client's call is on a directory of the tree, and no lock stands in its way.
use Rattle.std.specs.Prelude.{◌≡◌, ℕ, List, true, Option, Some, None}
use Rattle.std.specs.FinMap.{get, entries}
use Rattle.cfs_ids.specs.declared.ids.DirId.{DirId}
use Rattle.cfs_ids.specs.declared.ids.Node.{Node}
use Rattle.cfs_ids.specs.declared.errno.Errno.TheVariants.{Enoent, Eexist}
use Rattle.cfs_ids.specs.declared.call.Call.{Call}
use Rattle.cfs_ids.specs.declared.call.Call.TheVariants.{Lookup, List as ListCall}
use Rattle.cfs_ids.specs.declared.call.Reply.{Reply}
use Rattle.cfs_ids.specs.declared.call.Reply.TheVariants.{Moved, Node as NodeReply, Rows, Refused}
use Rattle.cfs_ids.specs.Maps.{row_key}
use Rattle.cfs_ids.specs.Namespace.{answer}
use Rattle.cfs_steps.specs.declared.contents.Row.{Row}
use Rattle.cfs_steps.specs.declared.contents.DirRec.{DirRec}
use Rattle.cfs_rules.specs.Places.{Shard, names_of}
use Rattle.cfs_steps.specs.Phases.{Phase, Asking, Inserting, maker, has_steps}
use Rattle.cfs_rules.specs.Worlds.{World, dir_of}
use Rattle.cfs_rules.specs.Trees.{is_shown, tree}
use Rattle.cfs_rules.specs.Facts.{space, MovesAllowed, Unlocked}

abbrev pub reply_of_row : Option Row → Reply
reply_of_row None = Refused Enoent
reply_of_row (Some row) = NodeReply row.node

abbrev pub reply_of_list : Shard → ℕ → Option DirRec → Reply
reply_of_list shard d None = Refused Enoent
reply_of_list shard d (Some r) = Rows (entries (names_of shard d))

abbrev pub reply_of_create : Option DirRec → Option Row → Reply
reply_of_create None row = Refused Enoent
reply_of_create (Some r) (Some row) = Refused Eexist
reply_of_create (Some r) None = Moved

-- a call that has made no step: its steps are built, and its directory counts
pub record Begins (shard : Shard) (call : Call) : Type 0 where
  pub built : has_steps call ≡ true
  pub sees : is_shown shard (dir_of call).0 ≡ true

-- the directory of a call that is still to be answered counts
abbrev pub Sees : Shard → Option Phase → Type 0
Sees shard (Some (Asking call)) = Begins shard call
Sees shard (Some (Inserting dir name node ts first)) = is_shown shard dir.0 ≡ true
Sees shard _ = Unit {0}

pub record Known (w : World) : Type 0 where
  -- the tree of the places is what the moves of the run make of the empty root
  pub same : tree w.shard w.store ≡ space w.run
  -- and each move was allowed
  pub allowed : MovesAllowed w.run
  pub free : Unlocked w.shard
  pub sees : (c : ℕ) → Sees w.shard (w.clients c).current
  pub lookup : (dir : DirId) (name : List ℕ) → is_shown w.shard dir.0 ≡ true → answer (tree w.shard w.store) (Lookup dir name) ≡ reply_of_row (get w.shard.rows (row_key dir name))
  pub listed : (dir : DirId) → is_shown w.shard dir.0 ≡ true → answer (tree w.shard w.store) (ListCall dir) ≡ reply_of_list w.shard dir.0 (get w.shard.recs dir.0)
  pub make : (dir : DirId) (name : List ℕ) (node : Node) → is_shown w.shard dir.0 ≡ true → answer (tree w.shard w.store) (maker dir name node) ≡ reply_of_create (get w.shard.recs dir.0) (get w.shard.rows (row_key dir name))
