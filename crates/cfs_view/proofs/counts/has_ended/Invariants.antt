use Rattle.std.proofs.Common.{drop, ◌≡◌}
use Rattle.cfs_view.specs.PlaceLists.{roster_in}
use Rattle.cfs_view.proofs.counts.has_ended.Given as goal

abbrev pub invariant-loop-place : goal.invariant-loop-place
invariant-loop-place l = roster_in l.places ≡ roster_in (drop l.place-index l.places)
