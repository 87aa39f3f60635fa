use Rattle.std.proofs.Common.{◌∙◌}
use Rattle.next_print.proofs.Passed.{Adds-at, AddsFront-at}
use Rattle.next_print.specs.Pieces.{piece_text}
use Rattle.next_print.proofs.output.put_all.Goals as goal

-- one more part
pub loop-piece-preserved : goal.loop-piece-preserved
loop-piece-preserved g c = record {
  written = Adds-at piece_text c.args.pieces.now c.loop-piece.piece-index _ _ _ _ _ _ _ c.loop-piece-test.true c.loop-piece.invariant.written c.in_ok-put_piece.ensures.ok;
  same = c.in_ok-put_piece.ensures.cause.same ∙ c.loop-piece.invariant.same;
}

-- the parts before this one and a front of it are a front
pub returns-in_err-put_piece-clause-front : goal.returns-in_err-put_piece-clause-front
returns-in_err-put_piece-clause-front g c =
    AddsFront-at piece_text c.args.pieces.now c.loop-piece.piece-index _ _ _ _ _ _ c.loop-piece-test.true c.loop-piece.invariant.written c.in_err-put_piece.ensures.front
