use Rattle.next_laws_several.proofs.Laws.{shards-law, stores-law}
use Rattle.next_laws_several.proofs.many_places_serve_as_one.Goals as goal

pub returns-clause-shards : goal.returns-clause-shards
returns-clause-shards c = shards-law

pub returns-clause-stores : goal.returns-clause-stores
returns-clause-stores c = stores-law
