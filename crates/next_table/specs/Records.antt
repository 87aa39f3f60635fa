-- How the record of a directory changes in place.
use Rattle.std.specs.Prelude.{ℕ, List, [], ◌∷◌, ◌++◌, Option, Some, None}
use Rattle.std.specs.FinMap.{get, insert}
use Rattle.next_ids.specs.declared.ids.DirId.{DirId}
use Rattle.next_ids.specs.declared.ids.JobNo.{JobNo}
use Rattle.next_ids.specs.declared.ids.Kind.{Kind}
use Rattle.next_ids.specs.declared.note.MarkNote.{MarkNote}
use Rattle.next_ids.specs.declared.attributes.Delta.{Delta}
use Rattle.next_ids.specs.Maps.{Numbers}
use Rattle.next_steps.specs.declared.contents.DirRec.{DirRec}
use Rattle.next_rules.specs.Contents.{Shard}

-- the records with that at a key changed, which is what was found there
abbrev pub changed_at : Numbers DirRec → ℕ → (DirRec → DirRec) → Option DirRec → Numbers DirRec
changed_at recs d change None = recs
changed_at recs d change (Some r) = insert recs d (change r)

-- the directory's record is changed; where there is none, nothing changes
abbrev pub change_rec : Shard → DirId → (DirRec → DirRec) → Shard
change_rec s dir change = record s { recs = changed_at s.recs dir.0 change (get s.recs dir.0) }

-- a change of its attributes more is pending
abbrev pub with_delta : Delta → DirRec → DirRec
with_delta delta r = record r { pending = r.pending ++ delta ∷ [] }

-- the client that put it has settled it
abbrev pub without_owner : DirRec → DirRec
without_owner r = record r { owner = None }

-- a client removes it
abbrev pub with_mark : MarkNote → DirRec → DirRec
with_mark note r = record r { mark = Some note }

-- a job has locked it, and it is settled
abbrev pub with_lock : JobNo → Kind → DirRec → DirRec
with_lock job kind r = record r { lock = Some (job, kind); owner = None }

abbrev pub without_lock : DirRec → DirRec
without_lock r = record r { lock = None }

-- it is named elsewhere, and no longer locked
abbrev pub named_at : DirId × List ℕ → DirRec → DirRec
named_at back r = record r { back = Some back; lock = None }
