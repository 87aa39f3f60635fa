-- The moves of the steps: the tree of the places after each is what the move makes of the tree before, which allows it.
use Rattle.std.proofs.Common.{◌≡◌, ℕ, List, [], ◌∷◌, true, ap}
use Rattle.std.specs.Prelude.{Option, Some, None}
use Rattle.std.specs.FinMap.{get, insert, remove, empty}
use Rattle.next_ids.specs.declared.call.Call.TheVariants.{Truncate, Unlink, Rmdir}
use Rattle.next_ids.specs.declared.ids.Actor.{Actor}
use Rattle.next_ids.specs.declared.ids.Actor.TheVariants.{Client as ClientActor}
use Rattle.next_ids.specs.declared.ids.Client.{Client}
use Rattle.next_ids.specs.declared.ids.DirId.{DirId}
use Rattle.next_ids.specs.declared.ids.FileId.{FileId}
use Rattle.next_ids.specs.declared.ids.Node.{Node}
use Rattle.next_ids.specs.declared.ids.Node.TheVariants.{Dir, File}
use Rattle.next_ids.specs.declared.ids.Stamp.{Stamp}
use Rattle.next_ids.specs.declared.note.MarkNote.{MarkNote}
use Rattle.next_ids.specs.declared.time.Ts.{Ts}
use Rattle.next_ids.specs.Maps.{row_key}
use Rattle.next_ids.specs.Times.{later}
use Rattle.next_steps.specs.declared.contents.DirRec.{DirRec}
use Rattle.next_steps.specs.declared.contents.FileRec.{FileRec}
use Rattle.next_steps.specs.declared.moves.Moved.{Moved}
use Rattle.next_steps.specs.declared.moves.Moved.TheVariants.{Move, Forget}
use Rattle.next_steps.specs.Writers.{maker}
use Rattle.next_rules.specs.Actors.{client_of}
use Rattle.next_rules.specs.Contents.{Shard, Store}
use Rattle.next_rules.specs.Changes.{set_row, update}
use Rattle.next_rules.specs.Moves.{IsAllowed, after_moved}
use Rattle.next_rules.specs.Primitives.{move_by}
use Rattle.next_rules.specs.Room.{HasRoom, room_in}
use Rattle.next_rules.specs.Trees.{tree}
use Rattle.next_laws_stages.specs.Stages.{Stage, is_open, is_kept, key_of, Inserts, Deletes, Removes, Drops, from, to}
use Rattle.next_laws_stages.specs.Held.{PlacesHold, still}
use Rattle.next_laws_stages.proofs.Allowed.{insert_may, delete_may, remove_may, resize_may, forget_may}
use Rattle.next_laws_stages.proofs.Cuts.{row_cut, delete_makes, remove_makes, drop_makes, resize_makes}
use Rattle.next_laws_stages.proofs.Inserts.{insert_makes}
use Rattle.next_laws_stages.proofs.Stages.{Shifts}

-- the tree of the first places, with this move, is that of the others
abbrev pub Makes : (shard : Shard) (store : Store) (shard' : Shard) (store' : Store) → Option Moved → Type 0
Makes shard store shard' store' moved = (tree (still shard' store') ≡ after_moved (tree (still shard store)) moved) × IsAllowed (tree (still shard store)) moved

abbrev pub made_move : Client → DirId → List ℕ → Node → Ts → Option Moved
made_move client dir name x ts = Some (Move (record { client = client; call = maker dir name x; ts = ts; made = Some x }))

module _ (stage stage' : Node → Stage) (shard : Shard) (store : Store) (lasts lasts' : ℕ → ℕ) (h : PlacesHold stage shard store lasts) where
  -- a node that was put is named
  pub insert_tree : (x : Node) (client : ℕ) (ts : Ts) (dir : DirId) (name : List ℕ) → Shifts stage stage' x (from (Inserts client ts dir name)) (to (Inserts client ts dir name)) → (at : Stamp) (r : DirRec)
      → shard.locks ≡ empty → get shard.recs dir.0 ≡ Some r → get shard.rows (row_key dir name) ≡ None → room_in shard dir x ≡ HasRoom → is_open (stage (Dir dir)) ≡ true
      → PlacesHold stage' (update (set_row shard dir name x at) dir (x ∷ []) [] ts (Some r)) store lasts'
      → Makes shard store (update (set_row shard dir name x at) dir (x ∷ []) [] ts (Some r)) store (made_move (client_of client) dir name x ts)
  insert_tree x client ts dir name shifts at r calm there free room opens h' = (
    insert_makes stage stage' shard store lasts lasts' h x client ts dir name shifts at r there opens h',
    insert_may stage shard store lasts h client ts dir name x r shifts.was opens there free calm room,
  )

  -- a file loses its name
  pub delete_tree : (file : FileId) (client : Client) (dir : DirId) (name : List ℕ) (at : Stamp) (ts : Ts) → Shifts stage stage' (File file) (from (Deletes (ClientActor client) dir name at)) (to (Deletes (ClientActor client) dir name at))
      → PlacesHold stage' (row_cut shard (ClientActor client) at dir name (File file) ts) store lasts'
      → Makes shard store (row_cut shard (ClientActor client) at dir name (File file) ts) store (move_by client (Unlink dir name) ts)
  delete_tree file client dir name at ts shifts h' =
      (delete_makes stage stage' shard store lasts lasts' h file (ClientActor client) dir name at ts shifts h', delete_may stage shard store lasts h file dir name shifts.was)

  -- and a directory that is marked, whoever cuts its row
  pub remove_tree : (note : MarkNote) (at : Stamp) → Shifts stage stage' (Dir note.child) (from (Removes note at)) (to (Removes note at))
      → PlacesHold stage' (row_cut shard (ClientActor note.owner) at note.dir note.name (Dir note.child) note.ts) store lasts'
      → Makes shard store (row_cut shard (ClientActor note.owner) at note.dir note.name (Dir note.child) note.ts) store (move_by note.owner (Rmdir note.dir note.name) note.ts)
  remove_tree note at shifts h' = (remove_makes stage stage' shard store lasts lasts' h note at shifts h', remove_may stage shard store lasts h note shifts.was)

  -- a file without a name is forgotten
  pub drop_file_tree : (f : FileId) (owner : Actor) (p : ℕ) (at : Stamp) → Shifts stage stage' (File f) (from (Drops owner p at)) (to (Drops owner p at))
      → PlacesHold stage' shard (remove store f.0) lasts' → Makes shard store shard (remove store f.0) (Some (Forget f))
  drop_file_tree f owner p at shifts h' = (drop_makes stage stage' shard store lasts lasts' h f owner p at shifts h', forget_may stage shard store lasts h f (ap key_of shifts.was))

-- a file's size is set
pub resize_tree : (stage : Node → Stage) (shard : Shard) (store : Store) (lasts lasts' : ℕ → ℕ) → PlacesHold stage shard store lasts → (f : FileId) (r : FileRec) (size : ℕ) (ts : Ts) (client : Client)
    → get store f.0 ≡ Some r → is_kept (stage (File f)) ≡ true → PlacesHold stage shard (insert store f.0 (record r { size = size; time = later r.time ts })) lasts'
    → Makes shard store shard (insert store f.0 (record r { size = size; time = later r.time ts })) (move_by client (Truncate f size) ts)
resize_tree stage shard store lasts lasts' h f r size ts client there kept h' =
    (resize_makes stage shard store lasts lasts' h f size ts r there kept h', resize_may stage shard store lasts h f size r kept there)
