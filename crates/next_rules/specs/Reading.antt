-- The shard's table of the asks that read. Each line is the first that applies.
use Rattle.std.specs.Prelude.{ℕ, List, map, Bool, true, false, ◌==◌, ◌&&◌, Option, Some, None}
use Rattle.std.specs.Str.{bytes_eq}
use Rattle.std.specs.FinMap.{get, entries, from_entries}
use Rattle.next_ids.specs.declared.ids.DirId.{DirId}
use Rattle.next_ids.specs.declared.ids.JobNo.{JobNo}
use Rattle.next_ids.specs.declared.ids.Node.{Node}
use Rattle.next_ids.specs.declared.note.MarkNote.{MarkNote}
use Rattle.next_ids.specs.Maps.{Names, row_key, within}
use Rattle.next_steps.specs.declared.contents.Row.{Row}
use Rattle.next_steps.specs.declared.contents.DirRec.{DirRec}
use Rattle.next_steps.specs.declared.answer.Answer.{Answer}
use Rattle.next_steps.specs.declared.answer.Answer.TheVariants as answer
use Rattle.next_rules.specs.Contents.{Shard, attr_of}
use Rattle.next_rules.specs.Locks.{holder, source_at, source_in, list_lock}

-- ---- what a record tells
abbrev pub mark_in : Option DirRec → Option MarkNote
mark_in None = None
mark_in (Some r) = r.mark

-- whether two directories are named alike
abbrev pub is_back : Option (DirId × List ℕ) → Option (DirId × List ℕ) → Bool
is_back None None = true
is_back (Some a) (Some b) = (a.0.0 == b.0.0) && bytes_eq a.1 b.1
is_back a b = false

abbrev pub lies_at : Option (DirId × List ℕ) → Option DirRec → Bool
lies_at back None = false
lies_at back (Some r) = is_back r.back back

-- the nodes of a directory, by rising name
abbrev pub names_of : Shard → ℕ → Names Node
names_of s d = from_entries (map (λ e. (e.0, e.1.node)) (within d (entries s.rows)))

-- ---- Read: a Source lock at the name, the row
abbrev pub read_row : Option JobNo → Option Row → Answer
read_row (Some job) row = answer.Locked job
read_row None None = answer.Absent
read_row None (Some row) = answer.Found row.node row.stamp

abbrev pub read : Shard → DirId → List ℕ → Answer
read s dir name = read_row (source_at s dir name) (get s.rows (row_key dir name))

-- ---- List: the record, its mark, a lock on it or a Source lock in the directory
abbrev pub list_rows : Shard → DirId → Option DirRec → Option MarkNote → Option JobNo → Answer
list_rows s dir None mark lock = answer.NoDir
list_rows s dir (Some r) (Some note) lock = answer.Leaving note
list_rows s dir (Some r) None (Some job) = answer.Locked job
list_rows s dir (Some r) None None = answer.Rows (entries (names_of s dir.0))

abbrev pub list : Shard → DirId → Answer
list s dir = list_rows s dir (get s.recs dir.0) (mark_in (get s.recs dir.0)) (list_lock s dir)

-- ---- Look: the record, a lock on it, whether it is named so, its mark, a Source lock in the directory
abbrev pub look_at : Option DirRec → (lock : Option JobNo) → (here : Bool) → Option MarkNote → (source : Option JobNo)
    → Answer
look_at None lock here mark source = answer.NoDir
look_at (Some r) (Some job) here mark source = answer.Locked job
look_at (Some r) None false mark source = answer.Moved
look_at (Some r) None true (Some note) source = answer.Leaving note
look_at (Some r) None true None (Some job) = answer.Locked job
look_at (Some r) None true None None = answer.Attr (attr_of r)

abbrev pub look : Shard → DirId → Option (DirId × List ℕ) → Answer
look s dir back =
    look_at (get s.recs dir.0) (holder (get s.recs dir.0)) (lies_at back (get s.recs dir.0)) (mark_in (get s.recs dir.0))
    (source_in s dir)
