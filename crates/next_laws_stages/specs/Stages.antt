-- Where a node is in its life, and what a step changes of that.
use Rattle.std.specs.Prelude.{ℕ, ◌%◌, List, Bool, true, false, Option, Some, None}
use Rattle.next_ids.specs.declared.ids.Actor.{Actor}
use Rattle.next_ids.specs.declared.ids.Actor.TheVariants.{Client as ClientActor}
use Rattle.next_ids.specs.declared.ids.DirId.{DirId}
use Rattle.next_ids.specs.declared.ids.Stamp.{Stamp}
use Rattle.next_ids.specs.declared.note.MarkNote.{MarkNote}
use Rattle.next_ids.specs.declared.time.Ts.{Ts}
use Rattle.next_ids.specs.Maps.{row_key}
use Rattle.next_steps.specs.declared.contents.Debt.{Debt}

pub data Stage : Type 0 where
  -- its number was not given out
  Unborn : Stage
  Root : Stage
  -- put by a client that means to name it there
  Fresh : (client : ℕ) → Ts → DirId → List ℕ → Stage
  Named : DirId → List ℕ → Stage
  Marked : MarkNote → Stage
  -- without a name; an actor has its record to drop, by a debt in the shard with the index, of the step
  Owed : Actor → (shard : ℕ) → Stamp → Stage
  -- the record is dropped, and the debt stands
  Cleared : Actor → (shard : ℕ) → Stamp → Stage
  Gone : Stage

abbrev pub is_born : Stage → Bool
is_born Unborn = false
is_born _ = true

-- others than its maker may know of it, from now on
abbrev pub is_known : Stage → Bool
is_known Unborn = false
is_known (Fresh client ts dir name) = false
is_known _ = true

-- a directory is in the tree
abbrev pub is_in : Stage → Bool
is_in Root = true
is_in (Named dir name) = true
is_in (Marked note) = true
is_in _ = false

-- rows may lie in it
abbrev pub is_open : Stage → Bool
is_open Root = true
is_open (Named dir name) = true
is_open _ = false

-- a file is in the tree until its record is dropped
abbrev pub is_kept : Stage → Bool
is_kept (Named dir name) = true
is_kept (Owed owner shard at) = true
is_kept _ = false

-- it has lost its name
abbrev pub is_left : Stage → Bool
is_left (Owed owner shard at) = true
is_left (Cleared owner shard at) = true
is_left Gone = true
is_left _ = false

-- the key of its row
abbrev pub key_of : Stage → Option (List ℕ)
key_of (Named dir name) = Some (row_key dir name)
key_of (Marked note) = Some (row_key note.dir note.name)
key_of _ = None

-- the shard of its debt, and the debt
abbrev pub debt_of : Stage → Option (ℕ × Debt)
debt_of (Owed owner shard at) = Some (shard, record { owner = owner; stamp = at })
debt_of (Cleared owner shard at) = Some (shard, record { owner = owner; stamp = at })
debt_of _ = None

-- ---- what a step changes of a node's stage
pub data Change : Type 0 where
  Puts : (client : ℕ) → Ts → DirId → List ℕ → Change
  Inserts : (client : ℕ) → Ts → DirId → List ℕ → Change
  -- by its maker, or by the collector for it
  TakesBack : (client : ℕ) → Ts → DirId → List ℕ → Change
  Deletes : (owner : Actor) → DirId → List ℕ → Stamp → Change
  Marks : MarkNote → Change
  -- by anyone
  Removes : MarkNote → Stamp → Change
  Drops : (owner : Actor) → (shard : ℕ) → Stamp → Change
  Clears : (owner : Actor) → (shard : ℕ) → Stamp → Change

abbrev pub from : Change → Stage
from (Puts client ts dir name) = Unborn
from (Inserts client ts dir name) = Fresh client ts dir name
from (TakesBack client ts dir name) = Fresh client ts dir name
from (Deletes owner dir name at) = Named dir name
from (Marks note) = Named note.dir note.name
from (Removes note at) = Marked note
from (Drops owner shard at) = Owed owner shard at
from (Clears owner shard at) = Cleared owner shard at

abbrev pub to : Change → Stage
to (Puts client ts dir name) = Fresh client ts dir name
to (Inserts client ts dir name) = Named dir name
to (TakesBack client ts dir name) = Gone
to (Deletes owner dir name at) = Owed owner (dir.0 % 64) at
to (Marks note) = Marked note
to (Removes note at) = Owed (ClientActor note.owner) (note.dir.0 % 64) at
to (Drops owner shard at) = Cleared owner shard at
to (Clears owner shard at) = Gone
