use Rattle.next_laws_history.proofs.Plain.{plain_legal, plain_moves, plain_last, plain_replies}
use Rattle.next_laws_history.proofs.plain_histories_are_legal.Goals as goal

pub returns-clause-legal : goal.returns-clause-legal
returns-clause-legal c = plain_legal

pub returns-clause-moves : goal.returns-clause-moves
returns-clause-moves c = plain_moves

pub returns-clause-last : goal.returns-clause-last
returns-clause-last c = plain_last

pub returns-clause-replies : goal.returns-clause-replies
returns-clause-replies c = plain_replies
