-- No directory counts more rows than its shard has entries in its log, and none is of a later step.
use Rattle.std.specs.Prelude.{◌≡◌, ℕ, ◌+◌, ◌*◌, ◌≤◌, ◌<◌, List, ◌∷◌, Some}
use Rattle.std.specs.FinMap.{get}
use Rattle.cfs_steps.specs.declared.contents.DirRec.{DirRec}
use Rattle.cfs_steps.specs.declared.contents.Row.{Row}
use Rattle.cfs_rules.specs.Places.{Shard}

pub record Within (count : ℕ) (r : DirRec) : Type 0 where
  pub children : r.attr.children ≤ count
  pub subdirs : r.attr.subdirs ≤ count

abbrev pub CountsWithin : ℕ → Shard → Type 0
CountsWithin count s = (d : ℕ) (r : DirRec) → get s.recs d ≡ Some r → Within count r

-- each directory that has rows or a record was made by a step with this number or a lower one
pub record IsKnown (last : ℕ) (s : Shard) : Type 0 where
  pub rows : (d : ℕ) (name : List ℕ) (row : Row) → get s.rows (d ∷ name) ≡ Some row → d < 64 * (last + 1)
  pub recs : (d : ℕ) (r : DirRec) → get s.recs d ≡ Some r → d < 64 * (last + 1)
