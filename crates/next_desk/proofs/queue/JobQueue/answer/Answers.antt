use Rattle.std.proofs.Common.{◌≢◌, ◌≡◌, ◌<◌, ◌≤◌, ◌-◌, ◌∙◌, length, set, refl, sym, ap, subst, arith}
use Rattle.std.specs.Prelude.{slice_get, Some}
use Rattle.std.proofs.lemmas.Option.{slice_get_read}
use Rattle.next_rules.specs.Desks.{with_numbered, job_answered}
use Rattle.next_desk.specs.Queues.{AreTaken}
use Rattle.next_desk.proofs.Queues.{answer-taken, with_nth-there, with_nth-past, with_numbered-nth}
use Rattle.next_desk.proofs.queue.JobQueue.answer.Goals as goal

pub returns-in_default : goal.returns-in_default
returns-in_default c =
    let some : c.args.job.0 ≢ 0 = omega arith in
    let past : length c.self.inside.jobs.items ≤ c.args.job.0 - 1 = let h = c.in_default.ensures.variant.1 in let all = c.self.inside.jobs.ok.0 in grind arith in
    with_nth-past (job_answered c.args.reply c.args.at) (c.args.job.0 - 1) c.self.inside.jobs.items past
    ∙ with_numbered-nth (job_answered c.args.reply c.args.at) c.args.job.0 c.self.inside.jobs.items some
    ∙ ap (with_numbered (job_answered c.args.reply c.args.at) c.args.job.0) c.self.view_is

pub invariant_of-self-2 : goal.invariant_of-self-2
invariant_of-self-2 c =
    let within : c.args.job.0 - 1 < length c.self.inside.jobs.items = let h = c.in-Some.ensures.variant.0 refl in let all = c.self.inside.jobs.ok.0 in omega arith in
    let there : slice_get c.self.inside.jobs.items (c.args.job.0 - 1) ≡ Some c.in-Some.job.now = slice_get_read c.self.inside.jobs.items (length c.self.inside.jobs.items) (c.args.job.0 - 1) c.in-Some.job.now refl within c.in-Some.ensures.value in
    subst (AreTaken c.self.inside.taken)
    (sym (ap (set c.self.inside.jobs.items (c.args.job.0 - 1)) c.set_answer.ensures ∙ with_nth-there (job_answered c.args.reply c.args.at) (c.args.job.0 - 1) c.self.inside.jobs.items c.in-Some.job.now there))
    (answer-taken c.self.inside.taken (c.args.job.0 - 1) c.self.inside.jobs.items c.args.reply c.args.at c.self.invariant)

pub returns : goal.returns
returns c =
    let some : c.args.job.0 ≢ 0 = omega arith in
    let within : c.args.job.0 - 1 < length c.self.inside.jobs.items = let h = c.in-Some.ensures.variant.0 refl in let all = c.self.inside.jobs.ok.0 in omega arith in
    let there : slice_get c.self.inside.jobs.items (c.args.job.0 - 1) ≡ Some c.in-Some.job.now = slice_get_read c.self.inside.jobs.items (length c.self.inside.jobs.items) (c.args.job.0 - 1) c.in-Some.job.now refl within c.in-Some.ensures.value in
    ap (set c.self.inside.jobs.items (c.args.job.0 - 1)) c.set_answer.ensures ∙ with_nth-there (job_answered c.args.reply c.args.at) (c.args.job.0 - 1) c.self.inside.jobs.items c.in-Some.job.now there
    ∙ with_numbered-nth (job_answered c.args.reply c.args.at) c.args.job.0 c.self.inside.jobs.items some
    ∙ ap (with_numbered (job_answered c.args.reply c.args.at) c.args.job.0) c.self.view_is
