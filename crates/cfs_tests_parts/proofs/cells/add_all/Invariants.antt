use Rattle.std.proofs.Common.{◌≡◌}
use Rattle.cfs_place.specs.Passes.{knows, IsPassOf, HoldsNothing}
use Rattle.cfs_tests_parts.proofs.cells.add_all.Given as goal

abbrev pub invariant-loop-value : goal.invariant-loop-value
invariant-loop-value g l = IsPassOf l.cell l.pass × HoldsNothing l.pass × ((knows l.pass).by ≡ l.by)
