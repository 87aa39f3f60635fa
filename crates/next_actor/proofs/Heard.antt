-- A client that hears an entry, and one that keeps it.
use Rattle.std.proofs.Common.{◌≡◌, ◌∙◌, ℕ, ◌+◌, Bool, List, [], ◌∷◌, ◌++◌, true, false, refl, ap, sym, arith}
use Rattle.std.specs.Prelude.{not, ◌==◌, ◌&&◌, ◌||◌, Option, Some, None, is_some, is_none, option_map}
use Rattle.std.proofs.lemmas.Bool.{or_right}
use Rattle.std.proofs.lemmas.Bool.Decides.{nat_tests}
use Rattle.next_ids.specs.declared.ids.Client.{Client}
use Rattle.next_ids.specs.declared.ids.PlaceNo.{PlaceNo}
use Rattle.next_ids.specs.declared.counts.Counts.{Counts}
use Rattle.next_ids.specs.declared.time.Ts.{Ts}
use Rattle.next_ids.specs.Times.{ts_at}
use Rattle.next_steps.specs.declared.call_done.CallDone.{CallDone}
use Rattle.next_steps.specs.declared.entry.Entry.{Entry}
use Rattle.next_steps.specs.Answers.{lists}
use Rattle.next_steps.specs.Asks.{place_of}
use Rattle.next_steps.specs.Counts.{puts_in}
use Rattle.next_steps.specs.Phases.{Phase, Asking, Reads, Writes, Removes, Finished}
use Rattle.next_steps.specs.Calls.{ask_of, heard, done_of, is_going}
use Rattle.next_rules.specs.Actors.{Plan, Ends, Progress, is_due, doing, asked, hears, with_phase, put_index, rest_of}
use Rattle.next_walk.specs.declared.command.Command.{Command}
use Rattle.next_walk.specs.declared.walk.Walk.{Walk}
use Rattle.next_calls.specs.declared.call_machine.CallMachine.{CallMachine}
use Rattle.next_calls.specs.CallMachines.{client_in, index_in, phase_in}
use Rattle.next_actor.specs.declared.kept.KeptEntry.{KeptEntry}
use Rattle.next_actor.specs.declared.program.Program.{Program}
use Rattle.next_actor.specs.Left.{plan_left, no_commands}
use Rattle.next_actor.specs.Programs.{plan_in}
use Rattle.next_actor.specs.States.{with_kept, worked_in, has_index, is_own, is_last, fits, takes_on, is_begun, may_keep, rests, is_ready, is_listed}
use Rattle.next_actor.proofs.Begun.{listed-begun}

pub same-number : (n : ℕ) → (n == n) ≡ true
same-number n = grind (arith, nat_tests)

-- ---- the current call's ask is the client's
ask-own : (counts : Counts) (c d : Client) (puts index : ℕ) (last : Ts) (phase : Phase) → ((d.0 == c.0) && has_index counts c puts phase index) ≡ true → ask_of d index last phase ≡ ask_of c (put_index counts c puts phase) last phase
ask-own counts c d puts index last (Asking a) own = grind (arith, nat_tests)
ask-own counts c d puts index last (Reads phase) own = refl
ask-own counts c d puts index last (Writes phase) own = grind (arith, nat_tests)
ask-own counts c d puts index last (Removes phase) own = grind (arith, nat_tests)
ask-own counts c d puts index last (Finished done) own = grind (arith, nat_tests)

pub settled-none : (kept : Option KeptEntry) (ready : Bool) → (is_none kept && ready) ≡ true → is_none kept ≡ true
settled-none None ready settled = refl
settled-none (Some k) ready settled = absurd (cc)

-- a settled client with a call on its way is asking at the place of the call
pub place-settled : (kept : Option KeptEntry) (current : Option CallMachine) (machine : CallMachine) (plan : Plan) (stop : Option ℕ) (steps : ℕ) (ended : Bool) (last puts : ℕ) (done : List CallDone) (counts : Counts) (client : Client) (place : PlaceNo) (moment : ℕ)
    → is_none kept ≡ true → current ≡ Some machine → ended ≡ false → is_due stop steps ≡ false → is_own counts client puts current ≡ true
    → ((t : Ts) → place ≡ place_of (ask_of (client_in machine) (index_in machine) t (phase_in machine)))
    → Some place ≡ option_map place_of (asked counts client moment (with_kept kept (worked_in current plan stop steps ended last puts done)) (doing (with_kept kept (worked_in current plan stop steps ended last puts done))))
place-settled (Some k) current machine plan stop steps ended last puts done counts client place moment none is going due own here = absurd (cc)
place-settled None None machine plan stop steps ended last puts done counts client place moment none is going due own here = absurd (cc)
place-settled None (Some m) machine plan stop steps true last puts done counts client place moment none is going due own here = absurd (cc)
place-settled None (Some m) machine plan stop steps false last puts done counts client place moment none is going due own here =
    let same : m ≡ machine = cc in
    let at : place ≡ place_of (ask_of (client_in m) (index_in m) (ts_at moment last) (phase_in m)) = rw same (here (ts_at moment last)) in
    rw due (ap Some (at ∙ ap place_of (ask-own counts client (client_in m) puts (index_in m) (ts_at moment last) (phase_in m) own)))

-- ---- after a step of a call
ended-with_phase : (p : Progress) (entry : Entry) (phase : Phase) → (with_phase p entry phase).ended ≡ p.ended
ended-with_phase p entry (Asking c) = refl
ended-with_phase p entry (Reads phase) = refl
ended-with_phase p entry (Writes phase) = refl
ended-with_phase p entry (Removes phase) = refl
ended-with_phase p entry (Finished done) = refl

-- the number before it counts no more
with_phase-last : (p : Progress) (n : ℕ) (entry : Entry) (phase : Phase) → with_phase (record p { last = n }) entry phase ≡ with_phase p entry phase
with_phase-last p n entry (Asking c) = refl
with_phase-last p n entry (Reads phase) = refl
with_phase-last p n entry (Writes phase) = refl
with_phase-last p n entry (Removes phase) = refl
with_phase-last p n entry (Finished done) = refl

-- a client that has stopped or ended keeps no entry
pub ended-kept : (kept : Option KeptEntry) (current : Option CallMachine) (program : Program) (plan : Plan) (stop : Option ℕ) (steps : ℕ) (ended : Bool) (last puts : ℕ) (done : List CallDone)
    → fits kept current ≡ true → rests ended kept current program ≡ true → may_keep kept (is_due stop steps) ≡ true
    → (with_kept kept (worked_in current plan stop steps ended last puts done)).ended ≡ true → is_none kept ≡ true
ended-kept None current program plan stop steps ended last puts done fit rest may e = refl
ended-kept (Some k) None program plan stop steps ended last puts done fit rest may e = absurd (cc)
ended-kept (Some k) (Some m) program plan stop steps true last puts done fit rest may e = absurd (cc)
ended-kept (Some k) (Some m) program plan stop steps false last puts done fit rest may e = by_due (is_due stop steps) refl
  where
    by_due : (b : Bool) → is_due stop steps ≡ b → is_none (Some k) ≡ true
    by_due true h = let clash : false ≡ true = rw h at may in absurd (cc)
    by_due false h = let p = worked_in (Some m) plan stop steps false last puts done in
        let clash : (with_phase p k.entry (heard (phase_in m) k.place k.entry)).ended ≡ true = rw h at e in
        let no : false ≡ true = sym (ended-with_phase p k.entry (heard (phase_in m) k.place k.entry)) ∙ clash in absurd (cc)

-- ---- hearing
pub left-over : (tries : ℕ) (walk : Option Walk) (waiting : List Command) → (is_none walk && no_commands waiting) ≡ true → plan_left tries walk waiting ≡ Ends
left-over tries None waiting over = by_waiting waiting over
  where
    by_waiting : (w : List Command) → no_commands w ≡ true → plan_left tries None w ≡ Ends
    by_waiting w h = grind arith
left-over tries (Some walk) waiting over = absurd (cc)

-- the step that stops or ends a client is heard at once
pub hears-final : (kept : Option KeptEntry) (current : Option CallMachine) (program : Program) (stop : Option ℕ) (steps : ℕ) (ended : Bool) (last puts : ℕ) (done : List CallDone) (place : PlaceNo) (entry : Entry)
    → (is_none kept && is_ready current program) ≡ true → (with_kept kept (worked_in current (plan_in program) stop steps ended last puts done)).ended ≡ false → (not (is_due stop steps) && is_some current) ≡ false
    → with_kept kept (worked_in current (plan_in program) stop steps true entry.number puts done) ≡ hears (with_kept kept (worked_in current (plan_in program) stop steps ended last puts done)) place entry
hears-final (Some k) current program stop steps ended last puts done place entry settled going final = absurd (cc)
hears-final None current program stop steps true last puts done place entry settled going final = absurd (cc)
hears-final None (Some m) program stop steps false last puts done place entry settled going final =
    let due : is_due stop steps ≡ true = grind arith in rw due refl
hears-final None None program stop steps false last puts done place entry settled going final =
    let over : plan_in program ≡ Ends = left-over program.tries program.walk program.waiting settled in by_due (is_due stop steps) refl over
  where
    by_due : (b : Bool) → is_due stop steps ≡ b → plan_in program ≡ Ends → worked_in None (plan_in program) stop steps true entry.number puts done ≡ hears (worked_in None (plan_in program) stop steps false last puts done) place entry
    by_due true h over = rw h refl
    by_due false h over = rw (h, over) refl

-- the entry of a step of a call is kept
pub hears-kept : (kept : Option KeptEntry) (current : Option CallMachine) (plan : Plan) (stop : Option ℕ) (steps : ℕ) (ended : Bool) (last puts : ℕ) (done : List CallDone) (place : PlaceNo) (entry : Entry)
    → is_none kept ≡ true → (with_kept kept (worked_in current plan stop steps ended last puts done)).ended ≡ false → (not (is_due stop steps) && is_some current) ≡ true
    → with_kept (Some (record { place = place; entry = entry })) (worked_in current plan stop steps ended entry.number puts done) ≡ hears (with_kept kept (worked_in current plan stop steps ended last puts done)) place entry
hears-kept (Some k) current plan stop steps ended last puts done place entry none going goes = absurd (cc)
hears-kept None None plan stop steps ended last puts done place entry none going goes = absurd (grind arith)
hears-kept None (Some m) plan stop steps true last puts done place entry none going goes = absurd (cc)
hears-kept None (Some m) plan stop steps false last puts done place entry none going goes =
    let due : is_due stop steps ≡ false = grind arith in
    rw due (with_phase-last (worked_in (Some m) plan stop steps false last puts done) entry.number entry (heard (phase_in m) place entry))

-- it takes the call on
pub fits-kept : (kept : Option KeptEntry) (current : Option CallMachine) (plan : Plan) (stop : Option ℕ) (steps : ℕ) (ended : Bool) (last puts : ℕ) (done : List CallDone) (counts : Counts) (client : Client) (place : PlaceNo) (entry : Entry)
    → is_none kept ≡ true → (with_kept kept (worked_in current plan stop steps ended last puts done)).ended ≡ false → (not (is_due stop steps) && is_some current) ≡ true
    → Some entry.ask ≡ asked counts client entry.moment (with_kept kept (worked_in current plan stop steps ended last puts done)) (doing (with_kept kept (worked_in current plan stop steps ended last puts done)))
    → is_listed entry (doing (with_kept kept (worked_in current plan stop steps ended last puts done))) ≡ true
    → fits (Some (record { place = place; entry = entry })) current ≡ true
fits-kept (Some k) current plan stop steps ended last puts done counts client place entry none going goes same listed = absurd (cc)
fits-kept None None plan stop steps ended last puts done counts client place entry none going goes same listed = absurd (grind arith)
fits-kept None (Some m) plan stop steps true last puts done counts client place entry none going goes same listed = absurd (cc)
fits-kept None (Some m) plan stop steps false last puts done counts client place entry none going goes same listed =
    let due : is_due stop steps ≡ false = grind arith in
    let asks : Some entry.ask ≡ Some (ask_of client (put_index counts client puts (phase_in m)) (ts_at entry.moment last) (phase_in m)) = rw due at same in
    let ask : entry.ask ≡ ask_of client (put_index counts client puts (phase_in m)) (ts_at entry.moment last) (phase_in m) = cc in
    let on : lists entry.ask entry.answer ≡ true = rw due at listed in
    let begun : is_begun (heard (phase_in m) place entry) ≡ true = listed-begun client (put_index counts client puts (phase_in m)) (ts_at entry.moment last) (phase_in m) place entry ask on in
    or_right (not (is_going (phase_in m))) (takes_on (record { place = place; entry = entry }) (phase_in m)) (rw (on, begun) refl)

-- an entry that is kept is there
pub none-kept : (kept : Option KeptEntry) (b : Bool) → is_none kept ≡ true → is_some kept ≡ true → b ≡ true
none-kept None b none some = absurd (cc)
none-kept (Some k) b none some = absurd (cc)

-- ---- hearing again what has ended the call
pub finished-phase : (phase : Phase) (call : CallDone) → done_of phase ≡ Some call → phase ≡ Finished call
finished-phase (Asking c) call is = absurd (cc)
finished-phase (Reads phase) call is = absurd (cc)
finished-phase (Writes phase) call is = absurd (cc)
finished-phase (Removes phase) call is = absurd (cc)
finished-phase (Finished done) call is = cc

-- the kept entry is that of a step of the call
due-kept : (kept : KeptEntry) (due : Bool) → may_keep (Some kept) due ≡ true → due ≡ false
due-kept kept true may = absurd (cc)
due-kept kept false may = refl

pub hears-again : (kept : KeptEntry) (before after : CallMachine) (program : Program) (plan : Plan) (stop : Option ℕ) (steps : ℕ) (ended : Bool) (last puts : ℕ) (done : List CallDone) (call : CallDone)
    → rests ended (Some kept) (Some before) program ≡ true → may_keep (Some kept) (is_due stop steps) ≡ true
    → phase_in after ≡ heard (phase_in before) kept.place kept.entry → done_of (phase_in after) ≡ Some call
    → with_kept (Some kept) (worked_in (Some after) plan stop steps ended last puts done) ≡ with_kept (Some kept) (worked_in (Some before) plan stop steps ended last puts done)
hears-again kept before after program plan stop steps true last puts done call rest may hears is = absurd (cc)
hears-again kept before after program plan stop steps false last puts done call rest may hears is =
    let due : is_due stop steps ≡ false = due-kept kept (is_due stop steps) may in
    let told : phase_in after ≡ Finished call = finished-phase (phase_in after) call is in
    let tells : heard (phase_in before) kept.place kept.entry ≡ Finished call = sym hears ∙ told in
    rw (due, told, tells) refl

-- ---- working the kept entry in
-- a call that goes on
with_phase-going : (p : Progress) (entry : Entry) (phase : Phase) → done_of phase ≡ None → with_phase p entry phase ≡ record p { current = Some phase; steps = p.steps + 1; last = entry.number; puts = p.puts + puts_in entry.ask }
with_phase-going p entry (Asking c) none = refl
with_phase-going p entry (Reads phase) none = refl
with_phase-going p entry (Writes phase) none = refl
with_phase-going p entry (Removes phase) none = refl
with_phase-going p entry (Finished done) none = absurd (cc)

same-last : (kept : KeptEntry) (last : ℕ) → is_last (Some kept) last ≡ true → last ≡ kept.entry.number
same-last kept last is = grind (arith, nat_tests)

pub works-going : (kept : KeptEntry) (before after : CallMachine) (program : Program) (plan : Plan) (stop : Option ℕ) (steps : ℕ) (ended : Bool) (last puts : ℕ) (done : List CallDone)
    → rests ended (Some kept) (Some before) program ≡ true → may_keep (Some kept) (is_due stop steps) ≡ true → is_last (Some kept) last ≡ true
    → phase_in after ≡ heard (phase_in before) kept.place kept.entry → done_of (phase_in after) ≡ None
    → worked_in (Some after) plan stop (steps + 1) ended last (puts + puts_in kept.entry.ask) done ≡ with_kept (Some kept) (worked_in (Some before) plan stop steps ended last puts done)
works-going kept before after program plan stop steps true last puts done rest may is hears none = absurd (cc)
works-going kept before after program plan stop steps false last puts done rest may is hears none =
    let due : is_due stop steps ≡ false = due-kept kept (is_due stop steps) may in
    let number : last ≡ kept.entry.number = same-last kept last is in
    let still : done_of (heard (phase_in before) kept.place kept.entry) ≡ None = rw (← hears) none in
    rw (due, hears, number, with_phase-going (worked_in (Some before) plan stop steps false kept.entry.number puts done) kept.entry (heard (phase_in before) kept.place kept.entry) still) refl

-- a call that ends
pub works-ended : (kept : KeptEntry) (before after : CallMachine) (program : Program) (plan later : Plan) (stop : Option ℕ) (steps : ℕ) (ended : Bool) (last puts : ℕ) (done more : List CallDone) (call : CallDone)
    → rests ended (Some kept) (Some before) program ≡ true → may_keep (Some kept) (is_due stop steps) ≡ true → is_last (Some kept) last ≡ true
    → phase_in after ≡ heard (phase_in before) kept.place kept.entry → done_of (phase_in after) ≡ Some call → later ≡ rest_of plan call.reply → more ≡ done ++ call ∷ []
    → worked_in None later stop (steps + 1) ended last (puts + puts_in kept.entry.ask) more ≡ with_kept (Some kept) (worked_in (Some before) plan stop steps ended last puts done)
works-ended kept before after program plan later stop steps true last puts done more call rest may is hears told then list = absurd (cc)
works-ended kept before after program plan later stop steps false last puts done more call rest may is hears told then list =
    let due : is_due stop steps ≡ false = due-kept kept (is_due stop steps) may in
    let number : last ≡ kept.entry.number = same-last kept last is in
    let tells : heard (phase_in before) kept.place kept.entry ≡ Finished call = sym hears ∙ finished-phase (phase_in after) call told in
    rw (due, tells, number, then, list) refl

-- ---- a kept entry takes the call on, unless the call has ended with it
takes-on : (going takes : Bool) → (not going || takes) ≡ true → going ≡ true → takes ≡ true
takes-on true takes fit going = fit
takes-on false takes fit going = absurd (cc)

first : (x y : Bool) → (x && y) ≡ true → x ≡ true
first true y h = refl
first false y h = absurd (cc)

second : (x y : Bool) → (x && y) ≡ true → y ≡ true
second true y h = h
second false y h = absurd (cc)

pub listed-kept : (kept : KeptEntry) (machine : CallMachine) → fits (Some kept) (Some machine) ≡ true → is_going (phase_in machine) ≡ true → lists kept.entry.ask kept.entry.answer ≡ true
listed-kept kept machine fit going =
    first (lists kept.entry.ask kept.entry.answer) (is_begun (heard (phase_in machine) kept.place kept.entry)) (takes-on (is_going (phase_in machine)) (takes_on kept (phase_in machine)) fit going)

pub begun-kept : (kept : KeptEntry) (machine : CallMachine) → fits (Some kept) (Some machine) ≡ true → is_going (phase_in machine) ≡ true → is_begun (heard (phase_in machine) kept.place kept.entry) ≡ true
begun-kept kept machine fit going =
    second (lists kept.entry.ask kept.entry.answer) (is_begun (heard (phase_in machine) kept.place kept.entry)) (takes-on (is_going (phase_in machine)) (takes_on kept (phase_in machine)) fit going)
