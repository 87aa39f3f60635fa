-- What is left to do, counted place by place.
use Rattle.std.specs.Prelude.{ℕ, ◌+◌, List, [], ◌∷◌, Bool, false, not, ◌&&◌, Option, Some, None}
use Rattle.std.specs.FinMap.{entries}
use Rattle.next_ids.specs.declared.ids.Client.{Client}
use Rattle.next_ids.specs.Maps.{how_many}
use Rattle.next_steps.specs.declared.contents.DirRec.{DirRec}
use Rattle.next_steps.specs.declared.contents.FileRec.{FileRec}
use Rattle.next_steps.specs.declared.contents.Debt.{Debt}
use Rattle.next_rules.specs.Contents.{Shard, Store, Roster}
use Rattle.next_rules.specs.Tallies.{is_out}

-- how many records of directories, records of files, and debts of these places pass the test
abbrev pub dirs_in : (ℕ × DirRec → Bool) → List Shard → ℕ
dirs_in p [] = 0
dirs_in p (s ∷ ss) = how_many p (entries s.recs) + dirs_in p ss

abbrev pub files_in : (ℕ × FileRec → Bool) → List Store → ℕ
files_in p [] = 0
files_in p (s ∷ ss) = how_many p (entries s) + files_in p ss

abbrev pub debts_in : (List ℕ × Debt → Bool) → List Shard → ℕ
debts_in p [] = 0
debts_in p (s ∷ ss) = how_many p (entries s.debts) + debts_in p ss

-- whether a record with this owner is a stray, where it is known whether a live row names its node
abbrev pub is_left_by : Roster → Bool → Option Client → Bool
is_left_by roster named None = false
is_left_by roster named (Some client) = is_out roster client && not named
