use Rattle.cfs_laws_places.proofs.Laws.{known_of}
use Rattle.cfs_laws_places.proofs.known.Goals as goal

pub returns : goal.returns
returns c = known_of
