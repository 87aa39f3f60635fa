use Rattle.next_laws_calls.proofs.Runs.{played_holds}
use Rattle.next_laws_calls.proofs.plain_runs_keep_the_places.Goals as goal

pub returns-clause-holds : goal.returns-clause-holds
returns-clause-holds c = λ setup plain turns all. (played_holds setup plain turns all).holds

pub returns-clause-past : goal.returns-clause-past
returns-clause-past c = λ setup plain turns all. (played_holds setup plain turns all).past
