use Rattle.std.proofs.Common.{sym, ap}
use Rattle.next_actor.proofs.Heard.{hears-again, works-going, works-ended}
use Rattle.next_actor.proofs.Told.{told-again-at, told-going-at, told-ended-at}
use Rattle.next_actor.specs.Programs.{plan_in}
use Rattle.next_actor.proofs.client_state.ClientState.work_in.Goals.{in-Some-finished+in_ok-finish_call, in_default-finished}
use Rattle.next_actor.proofs.client_state.ClientState.work_in.Goals as goal

pub returns-in_err-finish_call-clause-progress : goal.returns-in_err-finish_call-clause-progress
returns-in_err-finish_call-clause-progress c = let self = c.args.self.now in
    rw (c.in-Some.is, c.in-Some-current.is, c.in_err-finish_call.ensures.same_plan, c.in_err-finish_call.ensures.same_calls)
    (hears-again c.in-Some.kept c.in-Some-current.machine c.hear_kept.new.machine self.program (plan_in self.program) self.stop self.steps self.ended self.last self.puts self.done.items c.in-Some-finished.call.now
    (rw (c.in-Some.is, c.in-Some-current.is) at self.resting) (rw c.in-Some.is at self.going) c.in_ok-hear_kept.ensures.ok (sym c.in-Some-finished.ensures))

pub returns-clause-progress : goal.returns-clause-progress
returns-clause-progress c = let self = c.args.self.now in elim c.match-finished.branch [
  | in-Some-finished+in_ok-finish_call w ↦ rw (w.self-is, w.take.ensures.after, c.puts_in.ensures.puts, c.in-Some.is, c.in-Some-current.is)
      (works-ended c.in-Some.kept c.in-Some-current.machine c.hear_kept.new.machine self.program (plan_in self.program) (plan_in w.finish_call.new.program) self.stop self.steps self.ended self.last self.puts self.done.items w.finish_call.new.calls.items w.in-Some-finished.call.now
      (rw (c.in-Some.is, c.in-Some-current.is) at self.resting) (rw c.in-Some.is at self.going) (rw c.in-Some.is at self.stamped) c.in_ok-hear_kept.ensures.ok (sym w.in-Some-finished.ensures) w.in_ok-finish_call.ensures.plan w.in_ok-finish_call.ensures.calls)
  | in_default-finished w ↦ rw (w.self-is, c.puts_in.ensures.puts, c.in-Some.is, c.in-Some-current.is)
      (works-going c.in-Some.kept c.in-Some-current.machine c.hear_kept.new.machine self.program (plan_in self.program) self.stop self.steps self.ended self.last self.puts self.done.items
      (rw (c.in-Some.is, c.in-Some-current.is) at self.resting) (rw c.in-Some.is at self.going) (rw c.in-Some.is at self.stamped) c.in_ok-hear_kept.ensures.ok (sym w.in_default-finished.ensures))
]

pub returns-in_err-finish_call-clause-told : goal.returns-in_err-finish_call-clause-told
returns-in_err-finish_call-clause-told c = let self = c.args.self.now in
    told-again-at self.kept self.current c.in-Some.kept c.in-Some-current.machine c.hear_kept.new.machine self.program c.finish_call.new.program c.in-Some-finished.call.now c.in-Some.is c.in-Some-current.is c.in_ok-hear_kept.ensures.ok (sym c.in-Some-finished.ensures) c.in_err-finish_call.ensures.same_told

pub returns-clause-told : goal.returns-clause-told
returns-clause-told c = let self = c.args.self.now in elim c.match-finished.branch [
  | in-Some-finished+in_ok-finish_call w ↦
      told-ended-at self.kept self.current c.match-finished.self.1.1.1.0 c.in-Some.kept c.in-Some-current.machine c.hear_kept.new.machine self.program w.finish_call.new.program w.in-Some-finished.call.now c.in-Some.is c.in-Some-current.is (ap (λ x. x.1.1.1.0) w.self-is)
      c.in_ok-hear_kept.ensures.ok (sym w.in-Some-finished.ensures) w.in_ok-finish_call.ensures.told
  | in_default-finished w ↦
      told-going-at self.kept self.current c.match-finished.self.1.1.1.0 c.in-Some.kept c.in-Some-current.machine c.hear_kept.new.machine self.program c.in-Some.is c.in-Some-current.is (ap (λ x. x.1.1.1.0) w.self-is)
      c.in_ok-hear_kept.ensures.ok (sym w.in_default-finished.ensures)
]
