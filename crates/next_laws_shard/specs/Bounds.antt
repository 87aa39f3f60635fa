-- What is known of a shard by its last number, and by how many steps it has made.
use Rattle.std.specs.Prelude.{◌≡◌, ℕ, ◌+◌, ◌*◌, ◌<◌, ◌≤◌, List, ◌∷◌, length, Some}
use Rattle.std.specs.FinMap.{get, len}
use Rattle.next_steps.specs.declared.contents.Row.{Row}
use Rattle.next_steps.specs.declared.contents.RowLock.{RowLock}
use Rattle.next_steps.specs.declared.contents.DirRec.{DirRec}
use Rattle.next_ids.specs.Attributes.{CanFold}
use Rattle.next_rules.specs.Contents.{Shard}

-- each directory that has rows, locks or a record was made by a step with this number or a lower one
pub record IsKnown (last : ℕ) (s : Shard) : Type 0 where
  pub rows : (d : ℕ) (name : List ℕ) (row : Row) → get s.rows (d ∷ name) ≡ Some row → d < 64 * (last + 1)
  pub recs : (d : ℕ) (r : DirRec) → get s.recs d ≡ Some r → d < 64 * (last + 1)
  pub locks : (d : ℕ) (name : List ℕ) (lock : RowLock) → get s.locks (d ∷ name) ≡ Some lock → d < 64 * (last + 1)

-- so many steps have set at most so many rows, locks and debts, put so many records beside the root's, and left so many
-- pending changes in each
pub record IsWithin (steps : ℕ) (s : Shard) : Type 0 where
  pub rows : len s.rows ≤ steps
  pub recs : len s.recs ≤ steps + 1
  pub locks : len s.locks ≤ steps
  pub debts : len s.debts ≤ steps
  pub pending : (d : ℕ) (r : DirRec) → get s.recs d ≡ Some r → length r.pending ≤ steps

-- the pending changes of each record can be worked in
abbrev pub CanMerge : Shard → Type 0
CanMerge s = (d : ℕ) (r : DirRec) → get s.recs d ≡ Some r → CanFold r.base r.pending
