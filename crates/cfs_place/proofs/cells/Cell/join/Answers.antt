use Rattle.cfs_place.proofs.Joins.{merges}
use Rattle.cfs_place.proofs.cells.Cell.join.Goals as goal

pub absorb-requires-clause-rule : goal.absorb-requires-clause-rule
absorb-requires-clause-rule g c = merges _ _ _ _ _ _ _ c.requires.into.0.0.1 c.requires.into.0.1 c.requires.into.1 c.requires.«from».0.1 c.requires.«from».1
