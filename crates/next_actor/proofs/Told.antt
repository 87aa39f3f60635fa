-- The replies of commands, as their walks go on.
use Rattle.std.proofs.Common.{◌≡◌, ◌∙◌, ℕ, Bool, List, [], ◌∷◌, ◌++◌, true, false, refl, ap, sym, arith, append_assoc}
use Rattle.std.specs.Prelude.{not, ◌&&◌, Option, Some, None, is_some, is_none, slice_get, MatchOption}
use Rattle.next_ids.specs.declared.ids.PlaceNo.{PlaceNo}
use Rattle.next_ids.specs.declared.call.Reply.{Reply}
use Rattle.next_steps.specs.declared.call_done.CallDone.{CallDone}
use Rattle.next_steps.specs.declared.entry.Entry.{Entry}
use Rattle.next_steps.specs.Phases.{Phase, Asking, Reads, Writes, Removes, Finished}
use Rattle.next_steps.specs.Calls.{heard, done_of}
use Rattle.next_rules.specs.Actors.{Plan, Ends, is_due, doing}
use Rattle.next_walk.specs.declared.command.Command.{Command}
use Rattle.next_walk.specs.declared.walk.Walk.{Walk}
use Rattle.next_walk.specs.Stages.{course_in}
use Rattle.next_walk.specs.Walks.{Course, Makes, Answered, reply_in, heard_in, followed, course_of}
use Rattle.next_calls.specs.declared.call_machine.CallMachine.{CallMachine}
use Rattle.next_calls.specs.CallMachines.{phase_in}
use Rattle.next_actor.specs.declared.kept.KeptEntry.{KeptEntry}
use Rattle.next_actor.specs.declared.program.Program.{Program}
use Rattle.next_actor.specs.Left.{told_left, is_asking, no_commands}
use Rattle.next_actor.specs.Programs.{plan_in, told_in}
use Rattle.next_actor.specs.Replies.{told_as, told_from, reply_at, reply_by}
use Rattle.next_actor.specs.States.{with_kept, worked_in, reply_kept, is_ready}
use Rattle.next_actor.proofs.Heard.{left-over, finished-phase}

-- the same replies, whatever those to the calls are
abbrev Same : (List Reply → List Reply) → (List Reply → List Reply) → Type 0
Same f g = f ≡ g

append-nil : (xs : List Reply) → xs ++ [] ≡ xs
append-nil [] = refl
append-nil (x ∷ xs) = ap (λ (ys : List Reply). x ∷ ys) (append-nil xs)

-- ---- the walk of a command
-- a walk that has its reply goes, and its reply is added
pub told-answered : (course : Course) (reply : Reply) (replies : List Reply) (later : List Reply → List Reply) → reply_in course ≡ Some reply
    → Same (λ (calls : List Reply). (replies ++ reply ∷ []) ++ later calls) (λ (calls : List Reply). replies ++ told_as (followed course calls) later)
told-answered (Makes call next) reply replies later is = absurd (cc)
told-answered (Answered other) reply replies later is = let same : other ≡ reply = cc in rw same (λ i calls. append_assoc replies (reply ∷ []) (later calls) i)

-- the walk of the next command begins
pub told-started : (none : Option Walk) (walk : Walk) (tries : ℕ) (command : Command) (waiting more : List Command) (replies : List Reply) → is_none none ≡ true → course_in walk ≡ course_of tries command → waiting ≡ command ∷ more
    → Same (λ (calls : List Reply). replies ++ told_left tries (Some walk) more calls) (λ (calls : List Reply). replies ++ told_left tries none waiting calls)
told-started (Some w) walk tries command waiting more replies free course list = absurd (cc)
told-started None walk tries command waiting more replies free course list = rw (course, list) refl

pub taken : (waiting more : List Command) (command : Command) (r : Option Command) → Some command ≡ slice_get waiting 0 → MatchOption r ((waiting ≡ []) × (more ≡ [])) (λ other. waiting ≡ other ∷ more) → waiting ≡ command ∷ more
taken waiting more command None first none = let clash : Some command ≡ None = rw none.0 at first in absurd (cc)
taken waiting more command (Some other) first list = let head : Some command ≡ Some other = rw list at first in let same : other ≡ command = cc in rw (list, same) refl

-- a walk goes on by the reply to its call
pub told-heard : (course : Course) (reply : Reply) (replies : List Reply) (later : List Reply → List Reply) → is_none (reply_in course) ≡ true
    → Same (λ (calls : List Reply). replies ++ told_as (followed (heard_in course reply) calls) later) (λ (calls : List Reply). replies ++ told_as (followed course (reply ∷ calls)) later)
told-heard (Makes call next) reply replies later none = refl
told-heard (Answered other) reply replies later none = absurd (cc)

-- a walk that waits for a reply has told none
pub told-asking : (walk : Option Walk) (tries : ℕ) (commands : List Command) (replies : List Reply) → is_asking walk ≡ true → replies ≡ replies ++ told_left tries walk commands []
told-asking None tries commands replies asks = absurd (cc)
told-asking (Some walk) tries commands replies asks = by_course (course_in walk) asks
  where
    by_course : (course : Course) → is_none (reply_in course) ≡ true → replies ≡ replies ++ told_as (followed course []) (told_from tries commands)
    by_course (Makes call next) none = sym (append-nil replies)
    by_course (Answered other) none = absurd (cc)

pub told-over : (walk : Option Walk) (tries : ℕ) (commands : List Command) (replies : List Reply) → (is_none walk && no_commands commands) ≡ true → replies ≡ replies ++ told_left tries walk commands []
told-over (Some walk) tries commands replies over = absurd (cc)
told-over None tries [] replies over = sym (append-nil replies)
told-over None tries (command ∷ commands) replies over = absurd (cc)

-- ---- a client
pub told-kept : (kept : Option KeptEntry) (current : Option CallMachine) (program : Program) (plan : Plan) (stop : Option ℕ) (steps : ℕ) (ended : Bool) (last puts : ℕ) (done : List CallDone) (place : PlaceNo) (entry : Entry)
    → is_none kept ≡ true → (with_kept kept (worked_in current plan stop steps ended last puts done)).ended ≡ false → (not (is_due stop steps) && is_some current) ≡ true
    → Same (λ (calls : List Reply). told_in program (reply_kept (Some (record { place = place; entry = entry })) current ++ calls))
    (λ (calls : List Reply). told_in program (reply_kept kept current ++ (reply_by (doing (with_kept kept (worked_in current plan stop steps ended last puts done))) place entry ++ calls)))
told-kept (Some k) current program plan stop steps ended last puts done place entry none going goes = absurd (cc)
told-kept None None program plan stop steps ended last puts done place entry none going goes = absurd (grind arith)
told-kept None (Some m) program plan stop steps true last puts done place entry none going goes = absurd (cc)
told-kept None (Some m) program plan stop steps false last puts done place entry none going goes =
    let due : is_due stop steps ≡ false = grind arith in rw due refl

pub told-final : (kept : Option KeptEntry) (current : Option CallMachine) (program : Program) (stop : Option ℕ) (steps : ℕ) (ended : Bool) (last puts : ℕ) (done : List CallDone) (place : PlaceNo) (entry : Entry)
    → (is_none kept && is_ready current program) ≡ true → (with_kept kept (worked_in current (plan_in program) stop steps ended last puts done)).ended ≡ false → (not (is_due stop steps) && is_some current) ≡ false
    → Same (λ (calls : List Reply). told_in program (reply_kept kept current ++ calls))
    (λ (calls : List Reply). told_in program (reply_kept kept current ++ (reply_by (doing (with_kept kept (worked_in current (plan_in program) stop steps ended last puts done))) place entry ++ calls)))
told-final (Some k) current program stop steps ended last puts done place entry settled going final = absurd (cc)
told-final None current program stop steps true last puts done place entry settled going final = absurd (cc)
told-final None (Some m) program stop steps false last puts done place entry settled going final =
    let due : is_due stop steps ≡ true = grind arith in rw due refl
told-final None None program stop steps false last puts done place entry settled going final =
    let over : plan_in program ≡ Ends = left-over program.tries program.walk program.waiting settled in by_due (is_due stop steps) refl over
  where
    by_due : (b : Bool) → is_due stop steps ≡ b → plan_in program ≡ Ends → Same (λ (calls : List Reply). told_in program calls)
        (λ (calls : List Reply). told_in program (reply_by (doing (worked_in None (plan_in program) stop steps false last puts done)) place entry ++ calls))
    by_due true h over = rw h refl
    by_due false h over = rw (h, over) refl

-- the reply of a call that has ended
pub told-ended : (kept : KeptEntry) (before after : CallMachine) (program later : Program) (call : CallDone)
    → phase_in after ≡ heard (phase_in before) kept.place kept.entry → done_of (phase_in after) ≡ Some call → told_in later ≡ (λ calls. told_in program (call.reply ∷ calls))
    → Same (λ (calls : List Reply). told_in later calls) (λ (calls : List Reply). told_in program (reply_kept (Some kept) (Some before) ++ calls))
told-ended kept before after program later call hears told then =
    let tells : heard (phase_in before) kept.place kept.entry ≡ Finished call = sym hears ∙ finished-phase (phase_in after) call told in rw tells then

-- a call that goes on has none
reply-going : (phase : Phase) → done_of phase ≡ None → reply_at phase ≡ []
reply-going (Asking c) none = refl
reply-going (Reads phase) none = refl
reply-going (Writes phase) none = refl
reply-going (Removes phase) none = refl
reply-going (Finished done) none = absurd (cc)

pub told-going : (kept : KeptEntry) (before after : CallMachine) (program : Program) → phase_in after ≡ heard (phase_in before) kept.place kept.entry → done_of (phase_in after) ≡ None
    → Same (λ (calls : List Reply). told_in program calls) (λ (calls : List Reply). told_in program (reply_kept (Some kept) (Some before) ++ calls))
told-going kept before after program hears none =
    let still : done_of (heard (phase_in before) kept.place kept.entry) ≡ None = rw (← hears) none in rw (reply-going (heard (phase_in before) kept.place kept.entry) still) refl

-- hearing the entry again that has ended the call
pub told-again : (kept : KeptEntry) (before after : CallMachine) (program later : Program) (call : CallDone)
    → phase_in after ≡ heard (phase_in before) kept.place kept.entry → done_of (phase_in after) ≡ Some call → told_in later ≡ told_in program
    → Same (λ (calls : List Reply). told_in later (reply_kept (Some kept) (Some after) ++ calls)) (λ (calls : List Reply). told_in program (reply_kept (Some kept) (Some before) ++ calls))
told-again kept before after program later call hears told then =
    let is : phase_in after ≡ Finished call = finished-phase (phase_in after) call told in
    let tells : heard (phase_in before) kept.place kept.entry ≡ Finished call = sym hears ∙ is in rw (tells, is) (ap (λ (f : List Reply → List Reply). λ (calls : List Reply). f (call.reply ∷ calls)) then)

-- the same where what is kept, and the current call, are told by equations
pub told-again-at : (k : Option KeptEntry) (current : Option CallMachine) (kept : KeptEntry) (before after : CallMachine) (program later : Program) (call : CallDone) → k ≡ Some kept → current ≡ Some before
    → phase_in after ≡ heard (phase_in before) kept.place kept.entry → done_of (phase_in after) ≡ Some call → told_in later ≡ told_in program
    → Same (λ (calls : List Reply). told_in later (reply_kept k (Some after) ++ calls)) (λ (calls : List Reply). told_in program (reply_kept k current ++ calls))
told-again-at k current kept before after program later call is at hears told then = rw (is, at) (told-again kept before after program later call hears told then)

pub told-ended-at : (k : Option KeptEntry) (current : Option CallMachine) (now : Program) (kept : KeptEntry) (before after : CallMachine) (program later : Program) (call : CallDone) → k ≡ Some kept → current ≡ Some before → now ≡ later
    → phase_in after ≡ heard (phase_in before) kept.place kept.entry → done_of (phase_in after) ≡ Some call → told_in later ≡ (λ calls. told_in program (call.reply ∷ calls))
    → Same (λ (calls : List Reply). told_in now calls) (λ (calls : List Reply). told_in program (reply_kept k current ++ calls))
told-ended-at k current now kept before after program later call is at same hears told then = rw (is, at, same) (told-ended kept before after program later call hears told then)

pub told-going-at : (k : Option KeptEntry) (current : Option CallMachine) (now : Program) (kept : KeptEntry) (before after : CallMachine) (program : Program) → k ≡ Some kept → current ≡ Some before → now ≡ program
    → phase_in after ≡ heard (phase_in before) kept.place kept.entry → done_of (phase_in after) ≡ None
    → Same (λ (calls : List Reply). told_in now calls) (λ (calls : List Reply). told_in program (reply_kept k current ++ calls))
told-going-at k current now kept before after program is at same hears none = rw (is, at, same) (told-going kept before after program hears none)

-- a call that begins brings no reply
pub told-begun : (k : Option KeptEntry) (current next : Option CallMachine) (before now : Program) → is_none k ≡ true → told_in now ≡ told_in before
    → Same (λ (calls : List Reply). told_in now (reply_kept k next ++ calls)) (λ (calls : List Reply). told_in before (reply_kept k current ++ calls))
told-begun None current next before now none same = same
told-begun (Some kept) current next before now none same = absurd (cc)
