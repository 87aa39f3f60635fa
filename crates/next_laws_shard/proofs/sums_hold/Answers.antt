use Rattle.next_rules.proofs.Sums.{counts-from_sums}
use Rattle.next_laws_shard.proofs.Openings.{opening-sums}
use Rattle.next_laws_shard.proofs.Summed.{serve-sums}
use Rattle.next_laws_shard.proofs.sums_hold.Goals as goal

pub returns-clause-opening : goal.returns-clause-opening
returns-clause-opening c = opening-sums

pub returns-clause-step : goal.returns-clause-step
returns-clause-step c = serve-sums

pub returns-clause-counts : goal.returns-clause-counts
returns-clause-counts c = counts-from_sums
