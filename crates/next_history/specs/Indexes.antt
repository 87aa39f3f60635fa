-- The positions of a run's steps, by their stamps.
use Rattle.std.specs.Prelude.{◌≡◌, ℕ, List, [], ◌∷◌, length, if◌then◌else◌, Option, Some, None}
use Rattle.std.specs.declared.cmp.Ordering.{Ordering}
use Rattle.std.specs.BTreeMap.{BTreeMap, get}
use Rattle.next_ids.specs.declared.ids.PlaceNo.{PlaceNo}
use Rattle.next_ids.specs.declared.ids.Stamp.{Stamp}
use Rattle.next_steps.specs.declared.entry.Entry.{Entry}
use Rattle.next_rules.specs.Histories.{is_at}

-- the position of the newest step with the stamp, where there is one
abbrev pub place_in : Stamp → List (PlaceNo × Entry) → Option ℕ
place_in s [] = None
place_in s (e ∷ older) = if is_at s e then Some (length older) else place_in s older

-- the map has the position of each stamp of the run, and no other stamp
abbrev pub Follows : (Stamp → Stamp → Ordering) → BTreeMap Stamp ℕ → List (PlaceNo × Entry) → Type 0
Follows cmp positions run = (q : Stamp) → get cmp positions q ≡ place_in q run
