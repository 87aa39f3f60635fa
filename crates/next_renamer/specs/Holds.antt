-- The locks that a job holds, in the order in which they are released.
use Rattle.std.specs.Prelude.{List, [], ◌∷◌, ◌++◌, Option, Some, None}
use Rattle.next_ids.specs.declared.ids.Node.TheVariants.{Dir}
use Rattle.next_steps.specs.JobPhases as phase
use Rattle.next_steps.specs.Jobs.{source_holds, old_holds}
use Rattle.next_renamer.specs.declared.hold.Hold.{Hold}
use Rattle.next_renamer.specs.declared.hold.Hold.TheVariants.{TargetRow, TargetRec, SourceRow, SourceRec}
use Rattle.next_renamer.specs.declared.hold.Held.{Held}
use Rattle.next_renamer.specs.declared.hold.Held.TheVariants.{Nothing, Record, Source, Replaced, Target}

abbrev pub hold_of : Hold → phase.Hold
hold_of TargetRow = phase.TargetRow
hold_of (TargetRec old) = phase.TargetRec old
hold_of SourceRow = phase.SourceRow
hold_of (SourceRec source) = phase.SourceRec source

abbrev pub holds_of : Held → List phase.Hold
holds_of Nothing = []
holds_of (Record source) = phase.SourceRec source ∷ []
holds_of (Source node) = source_holds node
holds_of (Replaced old source) = phase.TargetRec old ∷ source_holds (Dir source)
holds_of (Target old source) = phase.TargetRow ∷ old_holds old ++ source_holds (Dir source)

-- the first lock before the others
abbrev pub split_list : Option (Hold × Held) → List phase.Hold
split_list None = []
split_list (Some split) = hold_of split.0 ∷ holds_of split.1
