-- What an index has.
use Rattle.std.specs.Prelude.{List, reverse}
use Rattle.next_ids.specs.declared.ids.PlaceNo.{PlaceNo}
use Rattle.next_steps.specs.declared.entry.Entry.{Entry}
use Rattle.next_history.specs.declared.index.Index.{Index}

-- the run, the newest step first
abbrev pub run_of : Index → List (PlaceNo × Entry)
run_of index = reverse index.run.now
