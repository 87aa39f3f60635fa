use Rattle.std.proofs.Common.{sym}
use Rattle.cfs_place.proofs.Joins.{forks}
use Rattle.cfs_place.proofs.steps.give_out.Goals as goal

pub another-seat-requires-clause-rule : goal.another-seat-requires-clause-rule
another-seat-requires-clause-rule g c = rw (sym c.requires.picked) (forks _ _ _ _ _ _ c.requires.pass.0.1 c.requires.pass.1 c.requires.number)
