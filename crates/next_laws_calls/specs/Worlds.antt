-- What holds of every world of a plain run.
use Rattle.std.specs.Prelude.{◌≡◌, ℕ, ◌≤◌, List, true, Option, Some, None}
use Rattle.std.specs.FinMap.{get}
use Rattle.next_ids.specs.declared.ids.At.TheVariants.{Before}
use Rattle.next_ids.specs.declared.ids.PlaceNo.{PlaceNo}
use Rattle.next_ids.specs.declared.ids.Stamp.{Stamp}
use Rattle.next_ids.specs.declared.ids.DirId.{DirId}
use Rattle.next_ids.specs.declared.ids.FileId.{FileId}
use Rattle.next_ids.specs.declared.ids.Node.{Node}
use Rattle.next_ids.specs.declared.ids.Node.TheVariants.{File}
use Rattle.next_ids.specs.declared.note.MarkNote.{MarkNote}
use Rattle.next_ids.specs.declared.time.Ts.{Ts}
use Rattle.next_ids.specs.declared.call.Call.TheVariants.{Stat}
use Rattle.next_ids.specs.declared.call.Reply.{Reply}
use Rattle.next_ids.specs.declared.call.Reply.TheVariants.{FileStat}
use Rattle.next_ids.specs.Maps.{row_key}
use Rattle.next_steps.specs.declared.contents.Row.{Row}
use Rattle.next_steps.specs.declared.entry.Entry.{Entry}
use Rattle.next_steps.specs.Phases.{Phase, Reads, Removes, ReaderPhase, StatGetting, StatChecking, Removing}
use Rattle.next_steps.specs.Readers.{begun_reading}
use Rattle.next_steps.specs.Removers.{note_of}
use Rattle.next_rules.specs.Contents.{Shard}
use Rattle.next_rules.specs.Actors.{Plan, Progress, client_of}
use Rattle.next_rules.specs.Setups.{knows, with_told, KeepsTo}
use Rattle.next_rules.specs.Worlds.{World}
use Rattle.next_rules.specs.Moves.{space, MovesAllowed}
use Rattle.next_rules.specs.Trees.{tree}
use Rattle.next_laws_told.specs.Claims.{IsTold, stands}
use Rattle.next_laws_stages.specs.Stages.{Stage, Marked, is_known}
use Rattle.next_laws_stages.specs.Needs.{MeetsAll}
use Rattle.next_laws_stages.specs.Held.{PlacesHold, IsFree, still}
use Rattle.next_laws_calls.specs.Plain.{KeepsPlain}
use Rattle.next_laws_calls.specs.Holding.{needs, IsPlainIn}

-- ---- a stat of a file
-- the row at the name is still the one that the stat has read
abbrev pub IsStill : Shard → DirId → List ℕ → FileId → (row : Stamp) → Type 0
IsStill shard dir name file row = get shard.rows (row_key dir name) ≡ Some (record { node = File file; stamp = row })

-- a stamp that no later step has
abbrev pub IsOld : (ℕ → ℕ) → Stamp → Type 0
IsOld lasts s = s.number ≤ lasts s.place.0

-- what was got holds as of then, if the row is still the same one
abbrev pub GotHolds : List (PlaceNo × Entry) → Shard → DirId → List ℕ → FileId → (row : Stamp) → Option (ℕ × Ts)
    → (got first : Stamp) → Type 0
GotHolds run shard dir name file row None got first = Unit {0}
GotHolds run shard dir name file row (Some found) got first =
    IsStill shard dir name file row → IsTold run (Stat dir name) first (Before got) (FileStat found.0 found.1)

-- what a call that reads has seen; its first step stands in the run
abbrev pub SeenIn : List (PlaceNo × Entry) → (ℕ → ℕ) → Shard → ReaderPhase → Type 0
SeenIn run lasts shard (StatGetting dir name file row first) = IsOld lasts row
SeenIn run lasts shard (StatChecking dir name file row found got first) =
    IsOld lasts row × GotHolds run shard dir name file row found got first
SeenIn run lasts shard phase = Unit {0}

abbrev pub Seen : List (PlaceNo × Entry) → (ℕ → ℕ) → Shard → Option Phase → Type 0
Seen run lasts shard (Some (Reads phase)) = (stands (begun_reading phase).1 run ≡ true) × SeenIn run lasts shard phase
Seen run lasts shard current = Unit {0}

-- ---- a client
-- what it will call is on nodes that are known, and no rename
pub record Follows (stage : Node → Stage) (rest : Reply → Plan) : Type 0 where
  pub nodes : List Node
  pub known : (x : Node) → knows nodes x ≡ true → is_known (stage x) ≡ true
  pub keeps : (reply : Reply) → KeepsTo (with_told reply nodes) (rest reply)
  pub plain : (reply : Reply) → KeepsPlain (rest reply)

pub record ClientHolds (run : List (PlaceNo × Entry)) (lasts : ℕ → ℕ) (shard : Shard) (stage : Node → Stage) (i : ℕ)
    (p : Progress) : Type 0 where
  pub plain : IsPlainIn p.current
  pub needs : MeetsAll i stage (needs i p.current)
  pub seen : Seen run lasts shard p.current
  pub follows : Follows stage p.rest

-- the owner of a mark is about to remove it
abbrev pub IsRemoving : ℕ → MarkNote → Option Phase → Type 0
IsRemoving i note (Some (Removes (Removing dir name child ts first))) = note ≡ note_of (client_of i) dir name child ts
IsRemoving i note current = ⊥

-- ---- a world
pub record Holds (w : World) : Type 0 where
  pub stage : Node → Stage
  pub places : PlacesHold stage w.service.shard w.service.store w.lasts
  pub free : IsFree w.service.shard
  -- no row, and no step of the run, has a stamp that a later step has
  pub rows_old : (k : List ℕ) (row : Row) → get w.service.shard.rows k ≡ Some row → IsOld w.lasts row.stamp
  pub run_old : (s : Stamp) → stands s w.run ≡ true → IsOld w.lasts s
  pub clients : (i : ℕ) → ClientHolds w.run w.lasts w.service.shard stage i (w.actors.clients i)
  pub works : (x : Node) (note : MarkNote) → stage x ≡ Marked note
      → IsRemoving note.owner.0 note (w.actors.clients note.owner.0).current

-- the tree is what the moves so far have made of the empty root, and each was allowed
pub record Past (w : World) : Type 0 where
  pub same : tree (still w.service.shard w.service.store) ≡ space w.run
  pub allowed : MovesAllowed w.run
