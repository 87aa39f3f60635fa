use Rattle.next_laws_shard.proofs.Keys.{known-kept}
use Rattle.next_laws_shard.proofs.Openings.{opening-known}
use Rattle.next_laws_shard.proofs.directories_are_known.Goals as goal

pub returns-clause-opening : goal.returns-clause-opening
returns-clause-opening c = opening-known

pub returns-clause-step : goal.returns-clause-step
returns-clause-step c = known-kept
