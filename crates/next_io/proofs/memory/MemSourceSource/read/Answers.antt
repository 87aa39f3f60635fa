use Rattle.std.proofs.Common.{arith}
use Rattle.std.proofs.lemmas.List.{length-drop, length-take}
use Rattle.next_io.proofs.Given.{front_given, none_given}
use Rattle.next_io.proofs.memory.MemSourceSource.read.Goals as goal

pub returns-clause-count : goal.returns-clause-count
returns-clause-count c = grind (arith, c.move_piece-count.ensures.count, c.deref-2.ensures.len, c.deref-2.ensures.value, length-drop, length-take)

pub returns-clause-bytes : goal.returns-clause-bytes
returns-clause-bytes c =
    (front_given _ _ _ _ c.deref-2.ensures.value _ c.move_piece-count.ensures.front, λ none some. none_given _ _ _ _ c.deref-2.ensures.value (c.move_piece-count.ensures.end none some))
