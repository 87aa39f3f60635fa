use Rattle.std.proofs.Common.{ℕ, suc, ◌≡◌, ◌+◌, ◌<◌, ◌≤◌, ◌∙◌, length, set, refl, sym, ap, subst, arith}
use Rattle.std.specs.Prelude.{slice_get, Option, Some, None}
use Rattle.std.specs.Option.{option_map}
use Rattle.std.proofs.lemmas.Option.{slice_get_read, slice_get_past}
use Rattle.next_steps.specs.declared.contents.Job.{Job}
use Rattle.next_rules.specs.Desks.{waiting_from, with_numbered, job_taken}
use Rattle.next_desk.specs.Queues.{AreTaken}
use Rattle.next_desk.proofs.Queues.{take-taken, waiting-at, with_nth-there, same_number, none_waits}
use Rattle.next_desk.proofs.queue.JobQueue.take.Goals as goal

pub invariant_of-self : goal.invariant_of-self
invariant_of-self c =
    let within : c.self.inside.taken < length c.self.inside.jobs.items = let h = c.in-Some.ensures.variant.0 refl in let all = c.self.inside.jobs.ok.0 in omega arith in
    let there : slice_get c.self.inside.jobs.items c.self.inside.taken ≡ Some c.in-Some.job.now = slice_get_read c.self.inside.jobs.items (length c.self.inside.jobs.items) c.self.inside.taken c.in-Some.job.now refl within c.in-Some.ensures.value in
    let taken = take-taken c.self.inside.taken c.self.inside.jobs.items c.in-Some.job.now there c.self.invariant in
    let next : suc c.self.inside.taken ≡ c.self.inside.taken + 1 = omega arith in
    subst (λ n. AreTaken n (set c.self.inside.jobs.items c.self.inside.taken c.mark_taken.new.job)) next
    (subst (λ j. AreTaken (suc c.self.inside.taken) (set c.self.inside.jobs.items c.self.inside.taken j)) (sym c.mark_taken.ensures) taken)

pub returns-in-Some : goal.returns-in-Some
returns-in-Some c number job e =
    let within : c.self.inside.taken < length c.self.inside.jobs.items = let h = c.in-Some.ensures.variant.0 refl in let all = c.self.inside.jobs.ok.0 in omega arith in
    let there : slice_get c.self.inside.jobs.items c.self.inside.taken ≡ Some c.in-Some.job.now = slice_get_read c.self.inside.jobs.items (length c.self.inside.jobs.items) c.self.inside.taken c.in-Some.job.now refl within c.in-Some.ensures.value in
    let found : ◌≡◌ {A = Option (ℕ × Job)} (Some (1 + c.self.inside.taken, c.in-Some.job.now)) (Some (number, job)) = ap (option_map (λ j. (1 + c.self.inside.taken, j))) (sym there) ∙ waiting-at 1 c.self.inside.taken c.self.inside.jobs.items c.self.invariant ∙ ap (waiting_from 1) c.self.view_is ∙ e in
    let same : suc c.self.inside.taken ≡ number = same_number c.self.inside.taken number c.in-Some.job.now job found in
    ap (set c.self.inside.jobs.items c.self.inside.taken) c.mark_taken.ensures ∙ with_nth-there job_taken c.self.inside.taken c.self.inside.jobs.items c.in-Some.job.now there
    ∙ ap (λ n. with_numbered job_taken n c.self.inside.jobs.items) same ∙ ap (with_numbered job_taken number) c.self.view_is

pub returns-in_default : goal.returns-in_default
returns-in_default c number job e =
    let past : length c.self.inside.jobs.items ≤ c.self.inside.taken = let h = c.in_default.ensures.variant.1 in let all = c.self.inside.jobs.ok.0 in grind arith in
    let none : slice_get c.self.inside.jobs.items c.self.inside.taken ≡ None = slice_get_past c.self.inside.jobs.items c.self.inside.taken past in
    let found : ◌≡◌ {A = Option (ℕ × Job)} None (Some (number, job)) = ap (option_map (λ j. (1 + c.self.inside.taken, j))) (sym none) ∙ waiting-at 1 c.self.inside.taken c.self.inside.jobs.items c.self.invariant ∙ ap (waiting_from 1) c.self.view_is ∙ e in
    absurd (none_waits number job found)
