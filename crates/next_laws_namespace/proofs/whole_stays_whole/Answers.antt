use Rattle.next_laws_namespace.proofs.Whole.{empty_root-whole, empty_root-once, kept-after, kept-forgotten}
use Rattle.next_laws_namespace.proofs.whole_stays_whole.Goals as goal

pub returns-clause-root : goal.returns-clause-root
returns-clause-root c = empty_root-whole

pub returns-clause-moves : goal.returns-clause-moves
returns-clause-moves c = λ n call made ts whole may. (kept-after n call made ts may whole).0

pub returns-clause-forgets : goal.returns-clause-forgets
returns-clause-forgets c = λ n f whole free. (kept-forgotten n f free whole).0

pub returns-clause-root_once : goal.returns-clause-root_once
returns-clause-root_once c = empty_root-once

pub returns-clause-moves_once : goal.returns-clause-moves_once
returns-clause-moves_once c = λ n call made ts whole once may. (kept-after n call made ts may whole).1 once
