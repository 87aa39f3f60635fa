use Rattle.std.proofs.Common.{◌∙◌, refl}
use Rattle.next_io.proofs.Ending.{TellsEndOnce-still, TellsEndOnce-on}
use Rattle.next_io.proofs.Going.{IsGoing-start, IsGoing-piece, TellsLine-line, bound-line, TellsLine-past, TellsLine-end}
use Rattle.next_io.proofs.line_part.read_line.Goals as goal

pub loop-line-init : goal.loop-line-init
loop-line-init g c = record { going = IsGoing-start _ _; same = refl; ends = TellsEndOnce-still _ _; ended = c.requires }

pub returns-in-Line-clause-line : goal.returns-in-Line-clause-line
returns-in-Line-clause-line g c =
    TellsLine-line _ _ _ _ _ _ _ _ _ c.loop-line.invariant.going c.in_ok-has_more.ensures.room c.in_ok-has_more.ensures.kept (rw c.in-Line.is at c.in_ok-take_part.ensures.ok)

pub returns-in-Line-clause-bound : goal.returns-in-Line-clause-bound
returns-in-Line-clause-bound g c =
    bound-line _ _ _ _ _ _ _ _ _ c.loop-line.invariant.going c.in_ok-has_more.ensures.room c.in_ok-has_more.ensures.kept c.in_ok-has_more.ensures.bound (rw c.in-Line.is at c.in_ok-take_part.ensures.ok)

pub returns-in-PastLimit-clause-line : goal.returns-in-PastLimit-clause-line
returns-in-PastLimit-clause-line g c =
    TellsLine-past _ _ _ _ _ _ _ _ _ c.loop-line.invariant.going c.in_ok-has_more.ensures.room c.in_ok-has_more.ensures.kept (rw c.in-PastLimit.is at c.in_ok-take_part.ensures.ok)

pub loop-line-preserved : goal.loop-line-preserved
loop-line-preserved g c = record {
  going = IsGoing-piece _ _ _ _ _ _ _ _ _ c.loop-line.invariant.going c.in_ok-has_more.ensures.room c.in_ok-has_more.ensures.kept (rw c.in-Piece.is at c.in_ok-take_part.ensures.ok);
  same = c.in_ok-has_more.ensures.cause.same ∙ c.loop-line.invariant.same;
  ends = TellsEndOnce-on _ _ _ _ _ _ c.loop-line.invariant.ends (rw c.in_ok-take_part.ensures.ended c.in_ok-has_more.ensures.ends);
  ended = rw c.in_ok-take_part.ensures.ended c.in_ok-has_more.ensures.ended;
}

pub returns-clause-line : goal.returns-clause-line
returns-clause-line g c =
    let at_end = c.in_ok-has_more.ensures.end c.if-branch.false in
    TellsLine-end _ _ _ _ _ _ _ _ c.loop-line.invariant.going c.in_ok-has_more.ensures.room at_end.0 c.in_ok-has_more.ensures.kept at_end.1
