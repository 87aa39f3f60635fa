-- What a client needs of a node, and which changes are a client's own.
use Rattle.std.specs.Prelude.{◌≡◌, ℕ, ◌%◌, List, [], ◌∷◌, Bool, true, false, ◌==◌, ◌⊎◌}
use Rattle.next_ids.specs.declared.ids.Actor.{Actor}
use Rattle.next_ids.specs.declared.ids.Actor.TheVariants.{Client as ClientActor, Renamer, Collector}
use Rattle.next_ids.specs.declared.ids.DirId.{DirId}
use Rattle.next_ids.specs.declared.ids.Node.{Node}
use Rattle.next_ids.specs.declared.ids.Node.TheVariants.{Dir}
use Rattle.next_ids.specs.declared.ids.Stamp.{Stamp}
use Rattle.next_ids.specs.declared.note.MarkNote.{MarkNote}
use Rattle.next_ids.specs.declared.time.Ts.{Ts}
use Rattle.next_rules.specs.Actors.{client_of}
use Rattle.next_laws_stages.specs.Stages.{Stage, Fresh, Marked, Owed, Cleared, is_known, is_left, Change, Puts, Inserts, TakesBack, Drops, Clears}

abbrev pub is_client : ℕ → Actor → Bool
is_client i (ClientActor client) = client.0 == i
is_client i Renamer = false
is_client i Collector = false

-- a change of what the client has put or owes
abbrev pub is_own : ℕ → Change → Bool
is_own i (Puts client ts dir name) = client == i
is_own i (Inserts client ts dir name) = client == i
is_own i (TakesBack client ts dir name) = client == i
is_own i (Drops owner shard at) = is_client i owner
is_own i (Clears owner shard at) = is_client i owner
is_own i change = false

pub data Need : Type 0 where
  Known : Need
  -- it has put the node, and means to name it so
  MayName : Ts → DirId → List ℕ → Need
  HasPut : Need
  -- a mark that it met
  Noted : MarkNote → Need
  -- its own mark, which another may have removed
  Removing : MarkNote → Need
  Owes : (shard : ℕ) → Stamp → Need
  Cleans : (shard : ℕ) → Stamp → Need

abbrev pub Meets : ℕ → Node → Need → Stage → Type 0
Meets i x Known s = is_known s ≡ true
Meets i x (MayName ts dir name) s = s ≡ Fresh i ts dir name
Meets i x HasPut s = (ts : Ts) × (dir : DirId) × (name : List ℕ) × (s ≡ Fresh i ts dir name)
Meets i x (Noted note) s = (Dir note.child ≡ x) × ((s ≡ Marked note) ⊎ (is_left s ≡ true))
Meets i x (Removing note) s =
    (note.owner ≡ client_of i)
    × ((s ≡ Marked note) ⊎ ((at : Stamp) × (s ≡ Owed (ClientActor note.owner) (note.dir.0 % 64) at)))
Meets i x (Owes shard at) s = s ≡ Owed (ClientActor (client_of i)) shard at
Meets i x (Cleans shard at) s = s ≡ Cleared (ClientActor (client_of i)) shard at

abbrev pub MeetsAll : ℕ → (Node → Stage) → List (Node × Need) → Type 0
MeetsAll i stage [] = Unit {0}
MeetsAll i stage (n ∷ ns) = Meets i n.0 n.1 (stage n.0) × MeetsAll i stage ns
