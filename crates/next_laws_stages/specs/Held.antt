-- What the places hold of nodes by their stages, while no job has a lock.
use Rattle.std.specs.Prelude.{◌≡◌, ℕ, suc, ◌*◌, ◌<◌, List, [], ◌∷◌, true, Option, Some, None}
use Rattle.std.specs.FinMap.{get, empty}
use Rattle.next_ids.specs.declared.ids.DirId.{DirId}
use Rattle.next_ids.specs.declared.ids.Node.{Node}
use Rattle.next_ids.specs.declared.ids.Node.TheVariants.{Dir, File}
use Rattle.next_ids.specs.declared.ids.PlaceNo.{PlaceNo}
use Rattle.next_ids.specs.declared.note.MarkNote.{MarkNote}
use Rattle.next_steps.specs.Asks.{home_of}
use Rattle.next_steps.specs.declared.contents.Row.{Row}
use Rattle.next_steps.specs.declared.contents.DirRec.{DirRec}
use Rattle.next_steps.specs.declared.contents.FileRec.{FileRec}
use Rattle.next_steps.specs.declared.contents.Debt.{Debt}
use Rattle.next_rules.specs.Contents.{Shard, Store, debt_key, opening_roster}
use Rattle.next_rules.specs.Changes.{node_in}
use Rattle.next_rules.specs.Primitives.{new_dir}
use Rattle.next_rules.specs.Stores.{new_file}
use Rattle.next_rules.specs.Actors.{client_of}
use Rattle.next_rules.specs.Facts.{SumsHold, LinksHold}
use Rattle.next_rules.specs.Worlds.{Service}
use Rattle.next_laws_stages.specs.Stages.{Stage, Root, Fresh, Named, Marked, Owed, is_born, is_open, key_of, debt_of}

-- ---- a node's record by its stage
pub record HasRec (o : Option DirRec) (m : Option MarkNote) (b : Option (DirId × List ℕ)) : Type 0 where
  pub r : DirRec
  pub there : o ≡ Some r
  pub mark : r.mark ≡ m
  pub back : r.back ≡ b

-- its mark still tells whose directory it is
pub record HasLeft (d : ℕ) (o : Option DirRec) : Type 0 where
  pub note : MarkNote
  pub back : Option (DirId × List ℕ)
  pub child : note.child.0 ≡ d
  pub rec : HasRec o (Some note) back

abbrev pub HasFile : Option FileRec → Type 0
HasFile o = (r : FileRec) × (o ≡ Some r)

abbrev pub FileIs : Option FileRec → Stage → Type 0
FileIs o Root = ⊥
FileIs o (Fresh client ts dir name) = o ≡ Some (new_file (client_of client) dir ts)
FileIs o (Named dir name) = HasFile o
FileIs o (Marked note) = ⊥
FileIs o (Owed owner shard at) = HasFile o
FileIs o _ = o ≡ None

abbrev pub DirIs : ℕ → Option DirRec → Stage → Type 0
DirIs d o Root = (d ≡ 0) × HasRec o None None
DirIs d o (Fresh client ts dir name) = o ≡ Some (new_dir (client_of client) dir name ts)
DirIs d o (Named dir name) = HasRec o None (Some (dir, name))
DirIs d o (Marked note) = (note.child.0 ≡ d) × HasRec o (Some note) (Some (note.dir, note.name))
DirIs d o (Owed owner shard at) = HasLeft d o
DirIs d o _ = o ≡ None

abbrev pub NodeIs : Shard → Store → Node → Stage → Type 0
NodeIs shard store (File f) s = FileIs (get store f.0) s
NodeIs shard store (Dir d) s = DirIs d.0 (get shard.recs d.0) s

-- ---- all of them
abbrev pub number_of : Node → ℕ
number_of (File f) = f.0
number_of (Dir d) = d.0

abbrev pub place_at : ℕ → PlaceNo
place_at p = record { 0 = p }

abbrev pub dir_at : ℕ → Node
dir_at d = Dir (record { 0 = d })

-- the key of a debt is that of a node in a shard
abbrev pub IsDebtKey : List ℕ → Type 0
IsDebtKey key = (p : ℕ) × (x : Node) × (key ≡ debt_key (place_at p) x)

-- no job has a lock on a name or a record
pub record IsFree (shard : Shard) : Type 0 where
  pub locks : shard.locks ≡ empty
  pub recs : (d : ℕ) (r : DirRec) → get shard.recs d ≡ Some r → r.lock ≡ None

pub record PlacesHold (stage : Node → Stage) (shard : Shard) (store : Store) (lasts : ℕ → ℕ) : Type 0 where
  pub sums : SumsHold shard
  pub links : LinksHold shard
  pub nodes : (x : Node) → NodeIs shard store x (stage x)
  -- a row is at its node's key, and each key has its row
  pub rows : (k : List ℕ) (row : Row) → get shard.rows k ≡ Some row → key_of (stage row.node) ≡ Some k
  pub named : (x : Node) (k : List ℕ) → key_of (stage x) ≡ Some k → node_in (get shard.rows k) ≡ Some x
  -- a debt is its node's, and each debt has its entry
  pub debts : (p : ℕ) (x : Node) (debt : Debt) → get shard.debts (debt_key (place_at p) x) ≡ Some debt
      → debt_of (stage x) ≡ Some (p, debt)
  pub owed : (p : ℕ) (x : Node) (debt : Debt) → debt_of (stage x) ≡ Some (p, debt)
      → get shard.debts (debt_key (place_at p) x) ≡ Some debt
  pub keyed : (key : List ℕ) (debt : Debt) → get shard.debts key ≡ Some debt → IsDebtKey key
  pub housed : (d : ℕ) (name : List ℕ) (row : Row) → get shard.rows (d ∷ name) ≡ Some row
      → is_open (stage (dir_at d)) ≡ true
  pub issued : (x : Node) → is_born (stage x) ≡ true → number_of x < 64 * suc (lasts (home_of x).0)
  pub root : stage (dir_at 0) ≡ Root

-- ---- rows, records and debts as a service without jobs holds them, whose tree is theirs
abbrev pub still : Shard → Store → Service
still shard store = record {
  shard = record shard { locks = empty };
  store = store;
  desk = [];
  roster = opening_roster;
}
