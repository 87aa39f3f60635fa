use Rattle.next_rules.specs.Places.{serve_shard}
use Rattle.next_laws_shard.proofs.Leaving.{leaves}
use Rattle.next_laws_shard.proofs.Openings.{opening-within}
use Rattle.next_laws_shard.proofs.Summed.{can_merge}
use Rattle.next_laws_shard.proofs.Within.{within-kept}
use Rattle.next_laws_shard.proofs.steps_bound_contents.Goals as goal

pub returns-clause-opening : goal.returns-clause-opening
returns-clause-opening c = opening-within

pub returns-clause-step : goal.returns-clause-step
returns-clause-step c steps s at moment ask h = within-kept steps s at (serve_shard s at moment ask).contents (leaves s at moment ask) h

pub returns-clause-merge : goal.returns-clause-merge
returns-clause-merge c = can_merge
