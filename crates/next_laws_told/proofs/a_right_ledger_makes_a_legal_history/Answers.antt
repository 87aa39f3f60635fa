use Rattle.next_laws_told.proofs.Histories.{history_legal, history_moves, history_last, history_replies}
use Rattle.next_laws_told.proofs.a_right_ledger_makes_a_legal_history.Goals as goal

pub returns-clause-legal : goal.returns-clause-legal
returns-clause-legal c = history_legal

pub returns-clause-moves : goal.returns-clause-moves
returns-clause-moves c = history_moves

pub returns-clause-last : goal.returns-clause-last
returns-clause-last c = history_last

pub returns-clause-replies : goal.returns-clause-replies
returns-clause-replies c = history_replies
