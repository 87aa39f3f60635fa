-- What every line of the shard's table keeps to: an answer that is neither New nor Done changes nothing and moves nothing,
-- and a client is told of no lock but the one that its ask meets.
use Rattle.std.proofs.Common.{◌≡◌, ℕ, List, Bool, true, false, refl}
use Rattle.std.specs.Prelude.{◌==◌, if◌then◌else◌, Option, Some, None}
use Rattle.std.specs.Option.{option_or}
use Rattle.next_ids.specs.declared.ids.JobNo.{JobNo}
use Rattle.next_ids.specs.declared.ids.Kind.{Kind}
use Rattle.next_ids.specs.declared.ids.Stamp.{Stamp}
use Rattle.next_ids.specs.declared.ids.PlaceNo.{PlaceNo}
use Rattle.next_ids.specs.declared.ids.DirId.{DirId}
use Rattle.next_ids.specs.declared.ids.FileId.{FileId}
use Rattle.next_ids.specs.declared.ids.Client.{Client}
use Rattle.next_ids.specs.declared.ids.Node.{Node}
use Rattle.next_ids.specs.declared.ids.Node.TheVariants.{Dir, File}
use Rattle.next_ids.specs.declared.note.MarkNote.{MarkNote}
use Rattle.next_ids.specs.declared.time.Ts.{Ts}
use Rattle.next_steps.specs.declared.contents.Row.{Row}
use Rattle.next_steps.specs.declared.contents.RowLock.{RowLock}
use Rattle.next_steps.specs.declared.contents.Debt.{Debt}
use Rattle.next_steps.specs.declared.contents.DirRec.{DirRec}
use Rattle.next_steps.specs.declared.answer.Answer.{Answer}
use Rattle.next_steps.specs.declared.answer.Answer.TheVariants as answer
use Rattle.next_steps.specs.declared.ask.Ask.{Ask}
use Rattle.next_steps.specs.declared.ask.Ask.TheVariants as ask
use Rattle.next_steps.specs.Removers.{note_of}
use Rattle.next_rules.specs.Contents.{Shard, Served, unmoved, changed}
use Rattle.next_rules.specs.Changes.{cut_rec}
use Rattle.next_rules.specs.Room.{Room, HasRoom, IsFull, DependsOn, room_lock}
use Rattle.next_rules.specs.Places.{serve_shard}
use Rattle.next_rules.specs.Primitives.{inserted, deleted, swap_onto, swap_from}
use Rattle.next_rules.specs.Removing.{marked, removed}
use Rattle.next_rules.specs.Owning.{settled_dir, taken_back_dir, dropped_rec, cleared}
use Rattle.next_rules.specs.Locking.{rec_locked, row_locked, rec_unlocked}
use Rattle.next_rules.specs.Moving.{committed, rebased}

abbrev pub changes : Answer → Bool
changes (answer.New node) = true
changes (answer.Done replaced) = true
changes a = false

-- where nothing is answered that changes something, nothing has changed and nothing has moved
abbrev pub Keeps : Shard → Served Shard → Type 0
Keeps s served = changes served.answer ≡ false → (served.contents ≡ s) × (served.moved ≡ None)

pub inserted_keeps : (s : Shard) (at : Stamp) (c : Client) (dir : DirId) (name : List ℕ) (node : Node) (ts : Ts)
    (rec : Option DirRec) (mark : Option MarkNote) (lock : Option JobNo) (row : Option Row) (room : Room)
    → Keeps s (inserted s at c dir name node ts rec mark lock row room)
inserted_keeps s at c dir name node ts None mark lock row room = λ h. (refl, refl)
inserted_keeps s at c dir name node ts (Some r) (Some note) lock row room = λ h. (refl, refl)
inserted_keeps s at c dir name node ts (Some r) None (Some job) row room = λ h. (refl, refl)
inserted_keeps s at c dir name node ts (Some r) None None (Some row) room = λ h. (refl, refl)
inserted_keeps s at c dir name node ts (Some r) None None None IsFull = λ h. (refl, refl)
inserted_keeps s at c dir name node ts (Some r) None None None (DependsOn job) = λ h. (refl, refl)
inserted_keeps s at c dir name node ts (Some r) None None None HasRoom = λ h. cc

pub deleted_keeps : (s : Shard) (at : Stamp) (c : Client) (dir : DirId) (name : List ℕ) (ts : Ts) (lock : Option JobNo) (node : Option Node) → Keeps s (deleted s at c dir name ts lock node)
deleted_keeps s at c dir name ts (Some job) found = λ h. (refl, refl)
deleted_keeps s at c dir name ts None None = λ h. (refl, refl)
deleted_keeps s at c dir name ts None (Some (Dir child)) = λ h. (refl, refl)
deleted_keeps s at c dir name ts None (Some (File file)) = λ h. cc

swap_onto_keeps : (s : Shard) (at : Stamp) (c : Client) (dir : DirId) (name to_name : List ℕ) (ts : Ts) (file : FileId) (old : Option Node) → Keeps s (swap_onto s at c dir name to_name ts file old)
swap_onto_keeps s at c dir name to_name ts file (Some (Dir old)) = λ h. (refl, refl)
swap_onto_keeps s at c dir name to_name ts file (Some (File old)) = λ h. cc
swap_onto_keeps s at c dir name to_name ts file None = λ h. cc

pub swap_keeps : (s : Shard) (at : Stamp) (c : Client) (dir : DirId) (name to_name : List ℕ) (ts : Ts) (lock : Option JobNo) (node : Option Node) (same : Bool) (old : Option Node) → Keeps s (swap_from s at c dir name to_name ts lock node same old)
swap_keeps s at c dir name to_name ts (Some job) found same old = λ h. (refl, refl)
swap_keeps s at c dir name to_name ts None None same old = λ h. (refl, refl)
swap_keeps s at c dir name to_name ts None (Some node) true old = λ h. (refl, refl)
swap_keeps s at c dir name to_name ts None (Some (Dir child)) false old = λ h. (refl, refl)
swap_keeps s at c dir name to_name ts None (Some (File file)) false old = swap_onto_keeps s at c dir name to_name ts file old

pub marked_keeps : (s : Shard) (note : MarkNote) (rec : Option DirRec) (lock : Option JobNo) (here : Bool) (mark : Option MarkNote) (inner : Option JobNo) (rows : Bool) → Keeps s (marked s note rec lock here mark inner rows)
marked_keeps s note None lock here mark inner rows = λ h. (refl, refl)
marked_keeps s note (Some r) (Some job) here mark inner rows = λ h. (refl, refl)
marked_keeps s note (Some r) None false mark inner rows = λ h. (refl, refl)
marked_keeps s note (Some r) None true (Some other) inner rows = λ h. (refl, refl)
marked_keeps s note (Some r) None true None (Some job) rows = λ h. (refl, refl)
marked_keeps s note (Some r) None true None None true = λ h. (refl, refl)
marked_keeps s note (Some r) None true None None false = λ h. cc

pub removed_keeps : (s : Shard) (at : Stamp) (note : MarkNote) (debt : Option Debt) (named : Bool) → Keeps s (removed s at note debt named)
removed_keeps s at note (Some debt) named = λ h. (refl, refl)
removed_keeps s at note None true = λ h. cc
removed_keeps s at note None false = λ h. (refl, refl)

pub rec_locked_keeps : (s : Shard) (job : JobNo) (child : DirId) (kind : Kind) (rec : Option DirRec) (lock : Option JobNo) (here : Bool) (mark : Option MarkNote) (inner : Option JobNo) (rows : Bool) → Keeps s (rec_locked s job child kind rec lock here mark inner rows)
rec_locked_keeps s job child kind None lock here mark inner rows = λ h. (refl, refl)
rec_locked_keeps s job child kind (Some r) (Some other) here mark inner rows = λ h. (refl, refl)
rec_locked_keeps s job child kind (Some r) None false mark inner rows = λ h. (refl, refl)
rec_locked_keeps s job child kind (Some r) None true (Some note) inner rows = λ h. (refl, refl)
rec_locked_keeps s job child kind (Some r) None true None (Some other) rows = λ h. (refl, refl)
rec_locked_keeps s job child kind (Some r) None true None None true = λ h. (refl, refl)
rec_locked_keeps s job child kind (Some r) None true None None false = λ h. cc

pub row_locked_keeps : (s : Shard) (dir : DirId) (name : List ℕ) (new : RowLock) (found : Option Node)
    (rec : Option DirRec) (mark : Option MarkNote) (lock : Option JobNo) (wanted full : Bool)
    → Keeps s (row_locked s dir name new found rec mark lock wanted full)
row_locked_keeps s dir name new found None mark lock wanted full = λ h. (refl, refl)
row_locked_keeps s dir name new found (Some r) (Some note) lock wanted full = λ h. (refl, refl)
row_locked_keeps s dir name new found (Some r) None (Some other) wanted full = λ h. (refl, refl)
row_locked_keeps s dir name new found (Some r) None None false full = λ h. (refl, refl)
row_locked_keeps s dir name new found (Some r) None None true true = λ h. (refl, refl)
row_locked_keeps s dir name new found (Some r) None None true false = λ h. cc

-- ---- a lock that a client is told of is the one that was looked up, or the one on which the room depends
pub insert_told : (s : Shard) (at : Stamp) (c : Client) (dir : DirId) (name : List ℕ) (node : Node) (ts : Ts)
    (rec : Option DirRec) (mark : Option MarkNote) (lock : Option JobNo) (row : Option Row) (room : Room) (job : JobNo)
    → (inserted s at c dir name node ts rec mark lock row room).answer ≡ answer.Locked job
    → option_or lock (room_lock room) ≡ Some job
insert_told s at c dir name node ts None mark lock row room job e = cc
insert_told s at c dir name node ts (Some r) (Some note) lock row room job e = cc
insert_told s at c dir name node ts (Some r) None (Some other) row room job e = cc
insert_told s at c dir name node ts (Some r) None None (Some row) room job e = cc
insert_told s at c dir name node ts (Some r) None None None IsFull job e = cc
insert_told s at c dir name node ts (Some r) None None None (DependsOn other) job e = cc
insert_told s at c dir name node ts (Some r) None None None HasRoom job e = cc

-- ---- the rest of the table, and all of it
if_keeps : (s t : Shard) (b : Bool) → Keeps s (if b then changed (answer.Done None) t else unmoved s answer.None)
if_keeps s t true = λ h. cc
if_keeps s t false = λ h. (refl, refl)

settled_keeps : (s : Shard) (dir : DirId) (rec : Option DirRec) (owner : Option Client) → Keeps s (settled_dir s dir rec owner)
settled_keeps s dir None owner = λ h. (refl, refl)
settled_keeps s dir (Some r) None = λ h. (refl, refl)
settled_keeps s dir (Some r) (Some client) = λ h. cc

taken_keeps : (s : Shard) (c : Client) (dir : DirId) (owner : Option Client) → Keeps s (taken_back_dir s c dir owner)
taken_keeps s c dir None = λ h. (refl, refl)
taken_keeps s c dir (Some owner) = if_keeps s (cut_rec s dir) (owner.0 == c.0)

dropped_keeps : (s : Shard) (dir : DirId) (rec : Option DirRec) → Keeps s (dropped_rec s dir rec)
dropped_keeps s dir None = λ h. (refl, refl)
dropped_keeps s dir (Some r) = λ h. cc

cleared_keeps : (s : Shard) (place : PlaceNo) (node : Node) (debt : Option Debt) → Keeps s (cleared s place node debt)
cleared_keeps s place node None = λ h. (refl, refl)
cleared_keeps s place node (Some debt) = λ h. cc

unlocked_keeps : (s : Shard) (child : DirId) (own : Bool) (rec : Option DirRec) → Keeps s (rec_unlocked s child own rec)
unlocked_keeps s child own None = λ h. (refl, refl)
unlocked_keeps s child false (Some r) = λ h. (refl, refl)
unlocked_keeps s child true (Some r) = λ h. cc

committed_keeps : (s : Shard) (at : Stamp) (job : JobNo) (c : Client) (dir : DirId) (name : List ℕ) (to_dir : DirId)
    (to_name : List ℕ) (node : Node) (ts : Ts) (target : Bool) (old : Option Row)
    → Keeps s (committed s at job c dir name to_dir to_name node ts target old)
committed_keeps s at job c dir name to_dir to_name node ts true old = λ h. cc
committed_keeps s at job c dir name to_dir to_name node ts false old = λ h. (refl, refl)

rebased_keeps : (s : Shard) (child : DirId) (back : DirId × List ℕ) (own : Bool) (rec : Option DirRec) → Keeps s (rebased s child back own rec)
rebased_keeps s child back own None = λ h. (refl, refl)
rebased_keeps s child back false (Some r) = λ h. (refl, refl)
rebased_keeps s child back true (Some r) = λ h. cc

pub shard_keeps : (s : Shard) (at : Stamp) (moment : ℕ) (a : Ask) → Keeps s (serve_shard s at moment a)
shard_keeps s at moment (ask.PutDir client place dir name) = λ h. cc
shard_keeps s at moment (ask.Insert client dir name node ts) = inserted_keeps s at client dir name node ts _ _ _ _ _
shard_keeps s at moment (ask.Delete client dir name ts) = deleted_keeps s at client dir name ts _ _
shard_keeps s at moment (ask.Swap client dir name to_name ts) = swap_keeps s at client dir name to_name ts _ _ _ _
shard_keeps s at moment (ask.Mark client child dir name ts) = marked_keeps s (note_of client dir name child ts) _ _ _ _ _ _
shard_keeps s at moment (ask.Remove note) = removed_keeps s at note _ _
shard_keeps s at moment (ask.Settle (Dir dir)) = settled_keeps s dir _ _
shard_keeps s at moment (ask.Settle (File file)) = λ h. (refl, refl)
shard_keeps s at moment (ask.TakeBack client (Dir dir)) = taken_keeps s client dir _
shard_keeps s at moment (ask.TakeBack client (File file)) = λ h. (refl, refl)
shard_keeps s at moment (ask.DropOwed client (Dir dir)) = taken_keeps s client dir _
shard_keeps s at moment (ask.DropOwed client (File file)) = λ h. (refl, refl)
shard_keeps s at moment (ask.DropRec dir) = dropped_keeps s dir _
shard_keeps s at moment (ask.Clear place node) = cleared_keeps s at.place node _
shard_keeps s at moment (ask.Merge place) = λ h. cc
shard_keeps s at moment (ask.LockRec job child dir name kind) = rec_locked_keeps s job child kind _ _ _ _ _ _
shard_keeps s at moment (ask.LockRow job dir name side want reserves) = row_locked_keeps s dir name _ _ _ _ _ _ _
shard_keeps s at moment (ask.Commit job client dir name to_dir to_name node ts) =
    committed_keeps s at job client dir name to_dir to_name node ts _ _
shard_keeps s at moment (ask.CutSource job dir name ts) = if_keeps s _ _
shard_keeps s at moment (ask.Rebase job child dir name) = rebased_keeps s child (dir, name) _ _
shard_keeps s at moment (ask.UnlockRow job dir name) = if_keeps s _ _
shard_keeps s at moment (ask.UnlockRec job child) = unlocked_keeps s child _ _
shard_keeps s at moment a = λ h. (refl, refl)
