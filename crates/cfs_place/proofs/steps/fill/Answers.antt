use Rattle.cfs_place.proofs.Gives.{begins, learns_fresh}
use Rattle.cfs_place.proofs.steps.fill.Goals as goal

pub push_as-filled-requires-clause-rule : goal.push_as-filled-requires-clause-rule
push_as-filled-requires-clause-rule g c = rw c.requires.fresh (begins _ _ _ _ _ _ _ c.requires.empty, learns_fresh _ _ _ _)
