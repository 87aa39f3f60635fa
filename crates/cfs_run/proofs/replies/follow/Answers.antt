use Rattle.std.proofs.Common.{◌+◌, refl, sym, ◌∙◌, ap, arith, List, drop}
use Rattle.std.proofs.Math.ListN.{drop_of_length-le}
use Rattle.std.proofs.lemmas.List.{at_drop_more}
use Rattle.cfs_steps.specs.declared.call_done.CallDone.{CallDone}
use Rattle.cfs_walk.specs.Stages.{course_in}
use Rattle.cfs_walk.specs.Walks.{Course, followed}
use Rattle.cfs_run.specs.Replies.{replies_in}
use Rattle.cfs_run.proofs.Following.{followed-hear, followed-ends, none-lent, some-lent}
use Rattle.cfs_run.proofs.replies.follow.Goals as goal

pub loop-walk-init : goal.loop-walk-init
loop-walk-init c = record { within = c.requires; same = refl }

pub loop-walk-preserved : goal.loop-walk-preserved
loop-walk-preserved c =
    let calls = c.args.calls.now in
    let at = c.loop-walk.at in
    let course = course_in c.loop-walk.walk in
    let none = none-lent c.reply.result _ c.reply.ensures.reply c.loop-walk-test.ensures in
    record {
      within = omega (arith, c.if-at-calls.true);
      same = ap (λ (heard : Course). followed heard (replies_in (drop (at + 1) calls))) c.in_ok-hear.ensures.ok
          ∙ sym (followed-hear course _ (replies_in (drop (at + 1) calls)) none)
          ∙ sym (at_drop_more (λ (left : List CallDone). followed course (replies_in left)) calls at _ c.if-at-calls.true)
          ∙ c.loop-walk.invariant.same;
    }

pub loop-walk-smaller : goal.loop-walk-smaller
loop-walk-smaller c = omega (arith, c.if-at-calls.true)

pub returns-else-at-calls-clause-followed : goal.returns-else-at-calls-clause-followed
returns-else-at-calls-clause-followed c =
    let left = drop_of_length-le c.args.calls.now c.if-at-calls.false in
    sym (followed-ends (course_in c.loop-walk.walk) (replies_in (drop c.loop-walk.at c.args.calls.now)) (λ e. ap replies_in left)) ∙ c.loop-walk.invariant.same

pub returns-else-at-calls-clause-within : goal.returns-else-at-calls-clause-within
returns-else-at-calls-clause-within c = c.loop-walk.invariant.within

pub returns-after-loop-walk-clause-followed : goal.returns-after-loop-walk-clause-followed
returns-after-loop-walk-clause-followed c =
    let some = some-lent c.reply.result _ c.reply.ensures.reply c.loop-walk-test.ensures in
    sym (followed-ends (course_in c.loop-walk.walk) (replies_in (drop c.loop-walk.at c.args.calls.now)) (λ none. absurd (some none))) ∙ c.loop-walk.invariant.same

pub returns-after-loop-walk-clause-within : goal.returns-after-loop-walk-clause-within
returns-after-loop-walk-clause-within c = c.loop-walk.invariant.within
