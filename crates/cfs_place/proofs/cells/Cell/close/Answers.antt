use Rattle.cfs_place.proofs.Joins.{closes, learns_full}
use Rattle.cfs_place.proofs.cells.Cell.close.Goals as goal

pub pop_as-last-requires-clause-rule : goal.pop_as-last-requires-clause-rule
pop_as-last-requires-clause-rule g c = (closes _ _ _ _ _ c.requires.pass.0.0.1 c.requires.pass.0.1 c.requires.all, learns_full _ _ _ _ _ c.requires.pass.0.0.1 c.requires.pass.0.1 c.requires.pass.1 c.requires.all)
