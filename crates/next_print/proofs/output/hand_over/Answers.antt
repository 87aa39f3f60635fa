use Rattle.std.proofs.Common.{arith, ◌∙◌}
use Rattle.std.proofs.lemmas.List.{take_rest, length-drop}
use Rattle.std.proofs.Math.Seq.{take-add}
use Rattle.next_io.proofs.Written.{Appends-append, AppendsFront-kept}
use Rattle.next_print.proofs.output.hand_over.Goals as goal

-- one more front
pub loop-at-preserved : goal.loop-at-preserved
loop-at-preserved g c =
    let some = rw (take_rest c.args.bytes.now c.loop-at.at) at c.in_ok-at.ensures.some in
    let more = rw (take_rest c.args.bytes.now c.loop-at.at) at c.in_ok-at.ensures.bytes in
    record {
      bound = omega (arith, some.1, length-drop c.loop-at.at c.args.bytes.now);
      written = rw (take-add c.loop-at.at c.in_ok-at.field-0 c.args.bytes.now) (Appends-append _ _ _ _ _ c.loop-at.invariant.written more);
      same = c.in_ok-at.ensures.cause.same ∙ c.loop-at.invariant.same;
    }

-- what stood before the failed write is a front
pub returns-in_err-at-clause-front : goal.returns-in_err-at-clause-front
returns-in_err-at-clause-front g c = AppendsFront-kept _ _ _ _ _ c.loop-at.invariant.written c.in_err-at.ensures.bytes
