use Rattle.cfs_laws_places.proofs.Laws.{one_step_of, unmoved_of, still_of}
use Rattle.cfs_laws_places.proofs.other_steps_keep.Goals as goal

pub returns-clause-one_step : goal.returns-clause-one_step
returns-clause-one_step c = one_step_of

pub returns-clause-unmoved : goal.returns-clause-unmoved
returns-clause-unmoved c = unmoved_of

pub returns-clause-still : goal.returns-clause-still
returns-clause-still c = still_of
