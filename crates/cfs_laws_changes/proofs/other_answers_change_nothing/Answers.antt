use Rattle.cfs_laws_changes.proofs.Still.{shard_still, store_still, roster_still}
use Rattle.cfs_laws_changes.proofs.other_answers_change_nothing.Goals as goal

pub returns-clause-shard : goal.returns-clause-shard
returns-clause-shard c = shard_still

pub returns-clause-store : goal.returns-clause-store
returns-clause-store c = store_still

pub returns-clause-roster : goal.returns-clause-roster
returns-clause-roster c = roster_still
