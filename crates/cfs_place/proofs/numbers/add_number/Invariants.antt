use Rattle.std.proofs.Common.{◌≡◌}
use Rattle.cfs_place.specs.Passes.{knows, IsPassOf}
use Rattle.cfs_place.proofs.numbers.add_number.Given as goal

abbrev pub invariant-loop : goal.invariant-loop
invariant-loop g l = IsPassOf l.cell l.pass × (knows l.pass ≡ knows l.fn.pass)
