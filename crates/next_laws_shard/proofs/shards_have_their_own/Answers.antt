use Rattle.next_laws_shard.proofs.Keys.{own-kept}
use Rattle.next_laws_shard.proofs.Openings.{opening-own}
use Rattle.next_laws_shard.proofs.shards_have_their_own.Goals as goal

pub returns-clause-opening : goal.returns-clause-opening
returns-clause-opening c = opening-own

pub returns-clause-step : goal.returns-clause-step
returns-clause-step c = own-kept
