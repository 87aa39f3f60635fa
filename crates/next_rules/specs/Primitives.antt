-- The shard's table of the asks that change one directory. Each line is the first that applies.
use Rattle.std.specs.Prelude.{ℕ, List, [], ◌∷◌, Bool, true, false, Option, Some, None}
use Rattle.std.specs.Str.{bytes_eq}
use Rattle.std.specs.FinMap.{get}
use Rattle.next_ids.specs.declared.ids.DirId.{DirId}
use Rattle.next_ids.specs.declared.ids.Client.{Client}
use Rattle.next_ids.specs.declared.ids.JobNo.{JobNo}
use Rattle.next_ids.specs.declared.ids.Stamp.{Stamp}
use Rattle.next_ids.specs.declared.ids.Actor.TheVariants.{Client as ClientActor}
use Rattle.next_ids.specs.declared.ids.FileId.{FileId}
use Rattle.next_ids.specs.declared.ids.Node.{Node}
use Rattle.next_ids.specs.declared.ids.Node.TheVariants.{Dir, File}
use Rattle.next_ids.specs.declared.note.MarkNote.{MarkNote}
use Rattle.next_ids.specs.declared.time.Ts.{Ts}
use Rattle.next_ids.specs.declared.call.Call.{Call}
use Rattle.next_ids.specs.declared.call.Call.TheVariants.{Unlink, Rename}
use Rattle.next_ids.specs.Maps.{row_key}
use Rattle.next_ids.specs.Times.{ts_at}
use Rattle.next_steps.specs.declared.contents.Row.{Row}
use Rattle.next_steps.specs.declared.contents.DirRec.{DirRec}
use Rattle.next_steps.specs.declared.answer.Answer.TheVariants as answer
use Rattle.next_steps.specs.declared.moves.Moved.{Moved}
use Rattle.next_steps.specs.declared.moves.Moved.TheVariants.{Move}
use Rattle.next_steps.specs.Writers.{maker}
use Rattle.next_rules.specs.Contents.{Shard, Served, unmoved, changed, empty_attr, made_at}
use Rattle.next_rules.specs.Changes.{set_row, cut_row, set_rec, update, leave_debt, node_in}
use Rattle.next_rules.specs.Room.{Room, HasRoom, IsFull, DependsOn, room_in}
use Rattle.next_rules.specs.Locks.{lock_at, insert_lock, swap_lock}
use Rattle.next_rules.specs.Reading.{mark_in}

-- the move of a client's call that makes no node
abbrev pub move_by : Client → Call → Ts → Option Moved
move_by client call ts = Some (Move (record { client = client; call = call; ts = ts; made = None }))

-- ---- PutDir: a directory without rows, which its client means to name here
abbrev pub new_dir : Client → DirId → List ℕ → Ts → DirRec
new_dir client dir name time = record {
  base = empty_attr time;
  pending = [];
  back = Some (dir, name);
  owner = Some client;
  mark = None;
  lock = None;
}

abbrev pub put_dir : Shard → Stamp → (moment : ℕ) → Client → DirId → List ℕ → Served Shard
put_dir s at moment client dir name =
    changed (answer.New (Dir (record { 0 = made_at at })))
    (set_rec s (record { 0 = made_at at }) (new_dir client dir name (ts_at moment at.number)))

-- ---- Insert: the record, its mark, a lock, the row, the room for a directory
abbrev pub insert_done : Shard → Stamp → Client → DirId → List ℕ → Node → Ts → DirRec → Served Shard
insert_done s at client dir name node ts r = record {
  answer = answer.Done None;
  contents = update (set_row s dir name node at) dir (node ∷ []) [] ts (Some r);
  moved = Some (Move (record { client = client; call = maker dir name node; ts = ts; made = Some node }));
}

abbrev pub inserted : Shard → Stamp → Client → DirId → List ℕ → Node → Ts
    → Option DirRec → Option MarkNote → (lock : Option JobNo) → Option Row → Room → Served Shard
inserted s at client dir name node ts None mark lock row room = unmoved s answer.NoDir
inserted s at client dir name node ts (Some r) (Some note) lock row room = unmoved s (answer.Leaving note)
inserted s at client dir name node ts (Some r) None (Some job) row room = unmoved s (answer.Locked job)
inserted s at client dir name node ts (Some r) None None (Some row) room = unmoved s answer.Exists
inserted s at client dir name node ts (Some r) None None None IsFull = unmoved s answer.Full
inserted s at client dir name node ts (Some r) None None None (DependsOn job) = unmoved s (answer.Locked job)
inserted s at client dir name node ts (Some r) None None None HasRoom = insert_done s at client dir name node ts r

abbrev pub insert_row : Shard → Stamp → Client → DirId → List ℕ → Node → Ts → Served Shard
insert_row s at client dir name node ts =
    inserted s at client dir name node ts (get s.recs dir.0) (mark_in (get s.recs dir.0)) (insert_lock s dir name)
    (get s.rows (row_key dir name)) (room_in s dir node)

-- ---- Delete: a lock at the name, the row's node
abbrev pub delete_done : Shard → Stamp → Client → DirId → List ℕ → Ts → Node → Served Shard
delete_done s at client dir name ts node = record {
  answer = answer.Done (Some node);
  contents =
      leave_debt (update (cut_row s dir name) dir [] (node ∷ []) ts (get s.recs dir.0)) (ClientActor client) at node;
  moved = move_by client (Unlink dir name) ts;
}

abbrev pub deleted : Shard → Stamp → Client → DirId → List ℕ → Ts → (lock : Option JobNo) → Option Node → Served Shard
deleted s at client dir name ts (Some job) found = unmoved s (answer.Locked job)
deleted s at client dir name ts None None = unmoved s answer.Absent
deleted s at client dir name ts None (Some (Dir child)) = unmoved s answer.IsDir
deleted s at client dir name ts None (Some (File file)) = delete_done s at client dir name ts (File file)

abbrev pub delete_row : Shard → Stamp → Client → DirId → List ℕ → Ts → Served Shard
delete_row s at client dir name ts =
    deleted s at client dir name ts (lock_at s dir name) (node_in (get s.rows (row_key dir name)))

-- ---- Swap: a lock at either name, the row's node, whether the names are one, the node at the new name
abbrev pub swapped : Shard → Stamp → DirId → (name to_name : List ℕ) → Ts → (gone : List Node) → FileId → Shard
swapped s at dir name to_name ts gone file =
    update (set_row (cut_row s dir name) dir to_name (File file) at) dir (File file ∷ []) (File file ∷ gone) ts
    (get s.recs dir.0)

abbrev pub swap_move : Client → DirId → (name to_name : List ℕ) → Ts → Option Moved
swap_move client dir name to_name ts = move_by client (Rename dir name dir to_name) ts

abbrev pub swap_onto : Shard → Stamp → Client → DirId → (name to_name : List ℕ) → Ts
    → FileId → (old : Option Node) → Served Shard
swap_onto s at client dir name to_name ts file (Some (Dir old)) = unmoved s answer.TargetIsDir
swap_onto s at client dir name to_name ts file (Some (File old)) = record {
  answer = answer.Done (Some (File old));
  contents = leave_debt (swapped s at dir name to_name ts (File old ∷ []) file) (ClientActor client) at (File old);
  moved = swap_move client dir name to_name ts;
}
swap_onto s at client dir name to_name ts file None = record {
  answer = answer.Done None;
  contents = swapped s at dir name to_name ts [] file;
  moved = swap_move client dir name to_name ts;
}

abbrev pub swap_from : Shard → Stamp → Client → DirId → (name to_name : List ℕ) → Ts
    → (lock : Option JobNo) → (node : Option Node) → (same : Bool) → (old : Option Node) → Served Shard
swap_from s at client dir name to_name ts (Some job) found same old = unmoved s (answer.Locked job)
swap_from s at client dir name to_name ts None None same old = unmoved s answer.Absent
swap_from s at client dir name to_name ts None (Some node) true old = unmoved s answer.Same
swap_from s at client dir name to_name ts None (Some (Dir child)) false old = unmoved s answer.SourceIsDir
swap_from s at client dir name to_name ts None (Some (File file)) false old =
    swap_onto s at client dir name to_name ts file old

abbrev pub swap_rows : Shard → Stamp → Client → DirId → (name to_name : List ℕ) → Ts → Served Shard
swap_rows s at client dir name to_name ts =
    swap_from s at client dir name to_name ts (swap_lock s dir name to_name) (node_in (get s.rows (row_key dir name)))
    (bytes_eq name to_name) (node_in (get s.rows (row_key dir to_name)))
