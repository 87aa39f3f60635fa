use Rattle.next_laws_answers.proofs.Shards.{shard-listed, counts_fit}
use Rattle.next_laws_answers.proofs.Stores.{store-listed, desk-listed, roster-listed}
use Rattle.next_laws_answers.proofs.answers_are_listed.Goals as goal

pub returns-clause-shard : goal.returns-clause-shard
returns-clause-shard c = shard-listed

pub returns-clause-store : goal.returns-clause-store
returns-clause-store c = store-listed

pub returns-clause-desk : goal.returns-clause-desk
returns-clause-desk c jobs ask s here suit is = desk-listed jobs s ask here suit is

pub returns-clause-roster : goal.returns-clause-roster
returns-clause-roster c = roster-listed

pub returns-clause-fit : goal.returns-clause-fit
returns-clause-fit c = counts_fit
