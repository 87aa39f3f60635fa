-- Where rows lie.
use Rattle.std.specs.Prelude.{◌≡◌, ℕ, List, [], ◌∷◌, true, Some, None}
use Rattle.std.specs.FinMap.{get}
use Rattle.next_steps.specs.declared.contents.Row.{Row}
use Rattle.next_rules.specs.Contents.{Shard}
use Rattle.next_rules.specs.Trees.{is_shown}

-- each row has a directory and a name, and its directory is one of the tree's
pub record IsHoused (s : Shard) : Type 0 where
  pub keyed : get s.rows [] ≡ None
  pub shown : (d : ℕ) (name : List ℕ) (row : Row) → get s.rows (d ∷ name) ≡ Some row → is_shown s d ≡ true
