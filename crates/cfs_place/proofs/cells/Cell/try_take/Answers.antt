use Rattle.cfs_place.proofs.Takes.{takes, learns_out}
use Rattle.cfs_place.proofs.cells.Cell.try_take.Goals as goal

pub pop_as-requires-clause-rule : goal.pop_as-requires-clause-rule
pop_as-requires-clause-rule g c = (takes _ _ _ _ _ c.requires.1, learns_out _ _ _ _ _ c.requires.1)
