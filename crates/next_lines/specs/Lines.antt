-- What a line of the shard's table gives.
use Rattle.std.specs.Prelude.{◌≡◌, ℕ, List, [], ◌∷◌, ◌==◌, Option, Some, None}
use Rattle.std.specs.FinMap.{get}
use Rattle.next_ids.specs.declared.ids.DirId.{DirId}
use Rattle.next_ids.specs.declared.ids.FileId.{FileId}
use Rattle.next_ids.specs.declared.ids.Client.{Client}
use Rattle.next_ids.specs.declared.ids.Stamp.{Stamp}
use Rattle.next_ids.specs.declared.ids.Actor.TheVariants.{Client as ClientActor}
use Rattle.next_ids.specs.declared.ids.Node.{Node}
use Rattle.next_ids.specs.declared.ids.Node.TheVariants.{File}
use Rattle.next_ids.specs.declared.time.Ts.{Ts}
use Rattle.next_ids.specs.Maps.{row_key}
use Rattle.next_steps.specs.declared.contents.Row.{Row}
use Rattle.next_rules.specs.Contents.{Shard, Served}
use Rattle.next_rules.specs.Changes.{set_row, cut_row, set_rec, cut_rec, update, set_lock, end_lock, leave_debt, end_debt, nodes_in}
use Rattle.next_rules.specs.Primitives.{swapped}
use Rattle.next_rules.specs.Owning.{merge}
use Rattle.next_rules.specs.Moving.{taken, committed_as}
use Rattle.next_table.specs.Records.{change_rec, without_owner, with_mark, with_lock, without_lock, named_at}
use Rattle.next_lines.specs.declared.change.Change.{Change}
use Rattle.next_lines.specs.declared.change.Change.TheVariants.{Keep, PutRec, SetRow, CutRow, SwapRows, Mark, Settle, CutRec, EndDebt, Merge, LockRec, UnlockRec, SetLock, EndLock, Rebase, CutSource, Commit}
use Rattle.next_lines.specs.declared.change.Line.{Line}

-- the nodes of a choice
abbrev pub one_or_none : Option Node → List Node
one_or_none None = []
one_or_none (Some node) = node ∷ []

-- a file's row at its new name, and the debt for the file that had it
abbrev pub swapped_onto : Shard → Stamp → DirId → (name to_name : List ℕ) → FileId → (old : Option FileId) → Client → Ts → Shard
swapped_onto s at dir name to_name file None owner ts = swapped s at dir name to_name ts [] file
swapped_onto s at dir name to_name file (Some old) owner ts =
    leave_debt (swapped s at dir name to_name ts (File old ∷ []) file) (ClientActor owner) at (File old)

-- the shard after the change, at a step with this stamp
abbrev pub after : Stamp → Shard → Change → Shard
after at s Keep = s
after at s (PutRec dir rec) = set_rec s dir rec
after at s (SetRow dir name node ts) = update (set_row s dir name node at) dir (node ∷ []) [] ts (get s.recs dir.0)
after at s (CutRow dir name node owner ts) =
    leave_debt (update (cut_row s dir name) dir [] (node ∷ []) ts (get s.recs dir.0)) (ClientActor owner) at node
after at s (SwapRows dir name to_name file old owner ts) = swapped_onto s at dir name to_name file old owner ts
after at s (Mark note) = change_rec s note.child (with_mark note)
after at s (Settle dir) = change_rec s dir without_owner
after at s (CutRec dir) = cut_rec s dir
after at s (EndDebt node) = end_debt s at.place node
after at s Merge = (merge s at.place).contents
after at s (LockRec child job kind) = change_rec s child (with_lock job kind)
after at s (UnlockRec child) = change_rec s child without_lock
after at s (SetLock dir name lock) = set_lock s dir name lock
after at s (EndLock dir name) = end_lock s dir name
after at s (Rebase child dir name) = change_rec s child (named_at (dir, name))
after at s (CutSource dir name ts) =
    update (end_lock (cut_row s dir name) dir name) dir [] (nodes_in (get s.rows (row_key dir name))) ts (get s.recs dir.0)
after at s (Commit job dir name to_dir to_name node old ts) =
    committed_as (dir.0 == to_dir.0) (taken s at job to_dir to_name node (one_or_none old)) dir name to_dir node
    (one_or_none old) ts

-- what the line gives
abbrev pub served_by : Stamp → Shard → Line → Served Shard
served_by at s line = record { answer = line.answer; contents = after at s line.change; moved = line.moved }

-- a change that sets a row finds the name free
abbrev pub IsFit : Shard → Change → Type 0
IsFit s (SetRow dir name node ts) = get s.rows (row_key dir name) ≡ None
IsFit s change = Unit {0}
