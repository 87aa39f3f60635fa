-- That a history has each line of its calls, as often as it stands among them.
use Rattle.std.specs.Prelude.{◌≡◌, List, Bool}
use Rattle.cfs_ids.specs.Maps.{how_many}
use Rattle.cfs_steps.specs.declared.line.Line.{Line}
use Rattle.cfs_steps.specs.declared.line.HistoryItem.{HistoryItem}
use Rattle.cfs_steps.specs.declared.line.HistoryItem.TheVariants.{Line as LineItem}

abbrev pub passes : (Line → Bool) → HistoryItem → Bool
passes p (LineItem line) = p line

-- of whatever kind, the history has as many lines as there are: none is lost, and none is made
abbrev pub HasEachLine : List HistoryItem → List Line → Type 0
HasEachLine items lines = (p : Line → Bool) → how_many (passes p) items ≡ how_many p lines
