use Rattle.std.proofs.Common.{◌≡◌, ◌≢◌, ℕ, true, sym, ap, ◌∙◌, subst, reverse, refl, set, Ok, Err, Result, List, ◌⊎◌, inl, inr}
use Rattle.std.specs.Prelude.{IsTrue}
use Rattle.std.specs.List.{list_all}
use Rattle.std.proofs.lemmas.List.{length-reverse}
use Rattle.next_ids.specs.declared.ids.PlaceNo.{PlaceNo}
use Rattle.next_ids.specs.declared.counts.Counts.{Counts}
use Rattle.next_ids.specs.declared.memory.NoMemory.{NoMemory}
use Rattle.next_steps.specs.Asks.{place_of}
use Rattle.next_rules.specs.Worlds.{World}
use Rattle.next_actor.specs.Standings.{Standing, has_ended}
use Rattle.next_places.specs.Held.{Held, full}
use Rattle.next_places.specs.Views.{held, counts_of}
use Rattle.next_core.specs.Casts.{standings, actors_in, works_with}
use Rattle.next_core.specs.Counted.{IsCounted}
use Rattle.next_core.specs.Parts.{is_idle, full_asked}
use Rattle.next_core.specs.Reached.{IsReached, places_there, world_in}
use Rattle.next_core.specs.Weave.{world_from}
use Rattle.next_core.specs.declared.turned.Turned.{Turned}
use Rattle.next_core.specs.declared.turned.Turned.TheVariants.{Stepped, Idle, Full}
use Rattle.next_core.proofs.Among.{works-here, next-here, last-here, stands-here, alike-here, same-here, members-here, stepped-here, counted-here}
use Rattle.next_core.proofs.Casting.{no-index}
use Rattle.next_core.proofs.Counting.{low_there, full-log, many-steps, log-room}
use Rattle.next_core.proofs.Positions.{no-position}
use Rattle.next_core.proofs.Reaching.{asks-there, reached-more}
use Rattle.next_core.proofs.turning.turn_among.Goals as goal

pub unreachable-requires : goal.unreachable-requires
unreachable-requires c =
    no-index (standings c.args.actors.now.items) c.args.actor (no-position c.args.actors.now.items c.args.actor (rw c.deref.ensures.value at (sym c.in-None.ensures))) c.requires.member

pub turn_actor-requires-clause-alike : goal.turn_actor-requires-clause-alike
turn_actor-requires-clause-alike c =
    works-here (counts_of c.args.places.now) c.args.actors.now.items c.args.actor c.in-Some.at c.index_mut-state.result.now
    (rw c.deref.ensures.value at (sym c.in-Some.ensures)) c.index_mut-state.ensures.value c.requires.sound.alike

pub turn_actor-requires-clause-there : goal.turn_actor-requires-clause-there
turn_actor-requires-clause-there c = λ ask next.
    (asks-there (counts_of c.args.places.now) (world_in c.args.places.now (standings c.args.actors.now.items) c.args.order.now.items) c.requires.sound.reached c.args.moment c.args.actor ask
    (next ∙ next-here (counts_of c.args.places.now) c.args.actors.now.items c.args.actor c.in-Some.at c.index_mut-state.result.now
    (rw c.deref.ensures.value at (sym c.in-Some.ensures)) c.index_mut-state.ensures.value c.requires.sound.alike c.args.moment)).0

pub turn_actor-requires-clause-suited : goal.turn_actor-requires-clause-suited
turn_actor-requires-clause-suited c = λ ask next.
    (asks-there (counts_of c.args.places.now) (world_in c.args.places.now (standings c.args.actors.now.items) c.args.order.now.items) c.requires.sound.reached c.args.moment c.args.actor ask
    (next ∙ next-here (counts_of c.args.places.now) c.args.actors.now.items c.args.actor c.in-Some.at c.index_mut-state.result.now
    (rw c.deref.ensures.value at (sym c.in-Some.ensures)) c.index_mut-state.ensures.value c.requires.sound.alike c.args.moment)).1

pub returns-clause-stepped : goal.returns-clause-stepped
returns-clause-stepped c = λ e.
    stepped-here (counts_of c.args.places.now) c.args.actors.now.items c.args.actor c.in-Some.at c.index_mut-state.result.now
    (rw c.deref.ensures.value at (sym c.in-Some.ensures)) c.index_mut-state.ensures.value c.requires.sound.alike
    c.turn_actor.new.state (held c.args.places.now) (held c.turn_actor.new.places) (reverse c.args.order.now.items) (reverse c.turn_actor.new.order.items) c.args.moment (c.turn_actor.ensures.stepped e)

pub returns-clause-idle : goal.returns-clause-idle
returns-clause-idle c = λ e.
    let here = stands-here (counts_of c.args.places.now) c.args.actors.now.items c.args.actor c.in-Some.at c.index_mut-state.result.now
    (rw c.deref.ensures.value at (sym c.in-Some.ensures)) c.index_mut-state.ensures.value c.requires.sound.alike in
    subst (λ (s : Standing). IsTrue (is_idle c.args.moment (held c.args.places.now) s)) (sym here) (c.turn_actor.ensures.idle e)

pub returns-clause-waits : goal.returns-clause-waits
returns-clause-waits c = λ idle.
    let here = stands-here (counts_of c.args.places.now) c.args.actors.now.items c.args.actor c.in-Some.at c.index_mut-state.result.now
    (rw c.deref.ensures.value at (sym c.in-Some.ensures)) c.index_mut-state.ensures.value c.requires.sound.alike in
    c.turn_actor.ensures.waits (subst (λ (s : Standing). IsTrue (is_idle c.args.moment (held c.args.places.now) s)) here idle)

pub returns-clause-ended : goal.returns-clause-ended
returns-clause-ended c = λ ended.
    let here = stands-here (counts_of c.args.places.now) c.args.actors.now.items c.args.actor c.in-Some.at c.index_mut-state.result.now
    (rw c.deref.ensures.value at (sym c.in-Some.ensures)) c.index_mut-state.ensures.value c.requires.sound.alike in
    c.turn_actor.ensures.ended (ap has_ended (sym here) ∙ ended)

pub returns-clause-full : goal.returns-clause-full
returns-clause-full c = λ place e.
    let found = rw c.deref.ensures.value at (sym c.in-Some.ensures) in
    let is = c.index_mut-state.ensures.value in
    let next = next-here (counts_of c.args.places.now) c.args.actors.now.items c.args.actor c.in-Some.at c.index_mut-state.result.now found is c.requires.sound.alike c.args.moment in
    let last = last-here (counts_of c.args.places.now) c.args.actors.now.items c.args.actor c.in-Some.at c.index_mut-state.result.now found is c.requires.sound.alike in
    let it = c.turn_actor.ensures.full place e in (
      it.0,
      it.1 ∙ next,
      it.2,
      full-log (reverse c.args.order.now.items) (held c.args.places.now) (actors_in (standings c.args.actors.now.items)) c.args.actor it.0 c.requires.sound.counted
          (ap (λ (n : ℕ). full (held c.args.places.now) n it.0) (sym last) ∙ it.3),
    )

pub returns-clause-room : goal.returns-clause-room
returns-clause-room c = λ e ask next.
    let found = rw c.deref.ensures.value at (sym c.in-Some.ensures) in
    let is = c.index_mut-state.ensures.value in
    let asked = next-here (counts_of c.args.places.now) c.args.actors.now.items c.args.actor c.in-Some.at c.index_mut-state.result.now found is c.requires.sound.alike c.args.moment in
    log-room (held c.args.places.now) _ ask (ap (full_asked (held c.args.places.now) _) (next ∙ sym asked) ∙ c.turn_actor.ensures.room e)

pub returns-clause-many : goal.returns-clause-many
returns-clause-many c = λ place e.
    let it = returns-clause-full c place e in
    let there = asks-there (counts_of c.args.places.now) (world_in c.args.places.now (standings c.args.actors.now.items) c.args.order.now.items) c.requires.sound.reached c.args.moment c.args.actor it.0 it.1 in
    rw length-reverse at (many-steps (reverse c.args.order.now.items) (held c.args.places.now) (actors_in (standings c.args.actors.now.items)) it.0
    (low_there (counts_of c.args.places.now) (place_of it.0).0 c.requires.sound.service.all.counts there.0) c.requires.sound.counted it.3)

pub returns-clause-same : goal.returns-clause-same
returns-clause-same c = λ n.
    let found = rw c.deref.ensures.value at (sym c.in-Some.ensures) in
    let is = c.index_mut-state.ensures.value in
    let kept = same-here (counts_of c.args.places.now) c.args.actors.now.items c.args.actor c.in-Some.at c.index_mut-state.result.now found is c.requires.sound.alike c.turn_actor.new.state (c.turn_actor.ensures.same_standing n) in
    ap (λ (ss : List Standing). world_from (reverse c.turn_actor.new.order.items) (held c.turn_actor.new.places) (actors_in ss)) kept
    ∙ ap (λ (h : Held). world_from (reverse c.turn_actor.new.order.items) h (actors_in (standings c.args.actors.now.items))) (c.turn_actor.ensures.same_held n)
    ∙ ap (λ (o : List PlaceNo). world_from (reverse o) (held c.args.places.now) (actors_in (standings c.args.actors.now.items))) (c.turn_actor.ensures.same_order n)

pub returns-clause-members : goal.returns-clause-members
returns-clause-members c =
    members-here (counts_of c.args.places.now) c.args.actors.now.items c.args.actor c.in-Some.at c.index_mut-state.result.now
    (rw c.deref.ensures.value at (sym c.in-Some.ensures)) c.index_mut-state.ensures.value c.requires.sound.alike c.turn_actor.new.state c.turn_actor.ensures.actor

decided : (r : Result Turned NoMemory) → (r ≡ Ok Stepped) ⊎ (r ≢ Ok Stepped)
decided (Ok Stepped) = inl refl
decided (Ok Idle) = inr (λ e. cc)
decided (Ok (Full place)) = inr (λ e. cc)
decided (Err e) = inr (λ e. cc)

pub returns-clause-sound : goal.returns-clause-sound
returns-clause-sound c =
    let found = rw c.deref.ensures.value at (sym c.in-Some.ensures) in
    let is = c.index_mut-state.ensures.value in
    let states = c.args.actors.now.items in
    let old = c.index_mut-state.result.now in
    let new = c.turn_actor.new.state in
    let counts = counts_of c.args.places.now in
    let same = sym c.turn_actor.ensures.counts in
    let all = c.requires.sound.alike in
    let before = world_in c.args.places.now (standings states) c.args.order.now.items in
    let after = world_in c.turn_actor.new.places (standings (set states c.in-Some.at new)) c.turn_actor.new.order.items in
    record {
      service = c.turn_actor.ensures.service;
      alike = subst (λ (k : Counts). list_all (works_with k) (standings (set states c.in-Some.at new)) ≡ true) same
          (alike-here counts states c.args.actor c.in-Some.at old found is all new c.turn_actor.ensures.alike);
      counted = elim (decided c.turn_actor.result) [
        | inl e ↦ counted-here counts states c.args.actor c.in-Some.at old found is all new (held c.args.places.now) (held c.turn_actor.new.places) (reverse c.args.order.now.items) (reverse c.turn_actor.new.order.items) c.args.moment
            (c.turn_actor.ensures.stepped e) c.requires.sound.counted
            (λ ask next. low_there counts (place_of ask).0 c.requires.sound.service.all.counts (asks-there counts before c.requires.sound.reached c.args.moment c.args.actor ask (next ∙ next-here counts states c.args.actor c.in-Some.at old found is all c.args.moment)).0) (c.turn_actor.ensures.room e)
        | inr n ↦ subst (λ (w : List Standing). IsCounted (reverse c.turn_actor.new.order.items) (held c.turn_actor.new.places) (actors_in w))
            (sym (same-here counts states c.args.actor c.in-Some.at old found is all new (c.turn_actor.ensures.same_standing n)))
            (subst (λ (h : Held). IsCounted (reverse c.turn_actor.new.order.items) h (actors_in (standings states))) (sym (c.turn_actor.ensures.same_held n))
            (subst (λ (o : List PlaceNo). IsCounted (reverse o) (held c.args.places.now) (actors_in (standings states))) (sym (c.turn_actor.ensures.same_order n)) c.requires.sound.counted))
      ];
      asked = subst (λ (k : Counts). places_there k c.turn_actor.new.order.items ≡ true) same (c.turn_actor.ensures.asked c.requires.sound.asked);
      reached = subst (λ (k : Counts). ∥ IsReached k after ∥₁) same (elim (decided c.turn_actor.result) [
        | inl e ↦ subst (λ (w : World). ∥ IsReached counts w ∥₁) (sym (returns-clause-stepped c e)) (reached-more counts before (record { actor = c.args.actor; moment = c.args.moment }) c.requires.sound.reached)
        | inr n ↦ subst (λ (w : World). ∥ IsReached counts w ∥₁) (sym (returns-clause-same c n)) c.requires.sound.reached
      ]);
    }
