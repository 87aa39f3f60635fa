-- What one step changes of a shard.
use Rattle.std.specs.Prelude.{◌≡◌, ◌≢◌, ℕ, List, Bool, true, false, Some, None}
use Rattle.std.specs.FinMap.{get}
use Rattle.cfs_ids.specs.declared.ids.DirId.{DirId}
use Rattle.cfs_ids.specs.declared.ids.Node.{Node}
use Rattle.cfs_ids.specs.declared.ids.Stamp.{Stamp}
use Rattle.cfs_ids.specs.Maps.{row_key}
use Rattle.cfs_steps.specs.declared.answer.Answer.{Answer}
use Rattle.cfs_steps.specs.declared.answer.Answer.TheVariants.{New, Done}
use Rattle.cfs_steps.specs.declared.contents.DirRec.{DirRec}
use Rattle.cfs_rules.specs.Places.{Shard, updated}

-- whether the answer says that something changed
abbrev pub changes : Answer → Bool
changes (New node) = true
changes (Done replaced) = true
changes answer = false

-- the second has what the first has, but at one name of the directory and in the directory's record
pub record AlikeBut (dir : DirId) (name : List ℕ) (s t : Shard) : Type 0 where
  pub rows : (k : List ℕ) → k ≢ row_key dir name → get t.rows k ≡ get s.rows k
  pub recs : (d : ℕ) → d ≢ dir.0 → get t.recs d ≡ get s.recs d
  pub locks : t.locks ≡ s.locks

-- a row stands at a name that was free, and the directory's record has had one attribute update
pub record IsInserted (at : Stamp) (dir : DirId) (name : List ℕ) (node : Node) (ts : ℕ) (s t : Shard) : Type 0 where
  pub free : get s.rows (row_key dir name) ≡ None
  pub row : get t.rows (row_key dir name) ≡ Some (record { node = node; stamp = at })
  pub rec : DirRec
  pub there : get s.recs dir.0 ≡ Some rec
  pub updated : get t.recs dir.0 ≡ Some (record rec { attr = updated rec.attr node ts })
