use Rattle.next_io.proofs.Given.{front_given, none_given}
use Rattle.next_io.proofs.sure.SureSourceSource.read.Goals as goal

pub returns-clause-bytes : goal.returns-clause-bytes
returns-clause-bytes c =
    (front_given _ _ _ _ c.deref.ensures.value _ c.move_piece-count.ensures.front, λ none some. none_given _ _ _ _ c.deref.ensures.value (c.move_piece-count.ensures.end none some))
