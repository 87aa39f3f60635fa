use Rattle.cfs_laws_history.proofs.Histories.{history_legal, history_final, history_moves}
use Rattle.cfs_laws_history.proofs.one_legal_history.Goals as goal

pub returns-clause-legal : goal.returns-clause-legal
returns-clause-legal c = history_legal

pub returns-clause-last : goal.returns-clause-last
returns-clause-last c = history_final

pub returns-clause-moves : goal.returns-clause-moves
returns-clause-moves c = history_moves
