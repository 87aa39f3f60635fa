use Rattle.std.proofs.Common.{arith}
use Rattle.next_io.proofs.Parting.{TakesPart-past, TakesPart-line, TakesPart-piece}
use Rattle.next_io.proofs.line_part.take_part.Goals as goal
use Rattle.next_io.proofs.line_part.take_part.Goals.{then-len-bytes, else-len-bytes}

pub returns-then-part-room-clause-ok : goal.returns-then-part-room-clause-ok
returns-then-part-room-clause-ok c =
    TakesPart-past _ _ _ c.bytes-bytes.result.now c.line_len-len.result c.min-part.result c.bytes-bytes.ensures.bytes c.line_len-len.ensures.len c.min-part.ensures c.requires c.skip.ensures (omega arith) (omega arith)

pub returns-clause-ok : goal.returns-clause-ok
returns-clause-ok c =
    elim c.if-len-bytes.branch [
      | then-len-bytes w ↦ rw w.end-is (TakesPart-line _ _ _ c.bytes-bytes.result.now c.line_len-len.result c.min-part.result c.bytes-bytes.ensures.bytes c.line_len-len.ensures.len c.min-part.ensures c.requires c.skip-2.ensures _ (omega arith) w.if-len-bytes.true c.in_ok-add.ensures)
      | else-len-bytes w ↦ rw w.end-is (TakesPart-piece _ _ _ c.bytes-bytes.result.now c.line_len-len.result c.min-part.result c.bytes-bytes.ensures.bytes c.line_len-len.ensures.len c.min-part.ensures c.requires c.skip-2.ensures _ (omega arith) w.if-len-bytes.false c.in_ok-add.ensures)
    ]
