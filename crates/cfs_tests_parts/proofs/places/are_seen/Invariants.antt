use Rattle.cfs_view.specs.Views.{IsService}
use Rattle.cfs_tests_parts.proofs.places.are_seen.Given as goal

abbrev pub invariant-loop-step : goal.invariant-loop-step
invariant-loop-step l = IsService l.places
