use Rattle.std.specs.List.{list_all}
use Rattle.std.proofs.Common.{set, true, ◌≡◌, ◌≢◌, ℕ, ◌∙◌, sym, ap, subst, reverse, refl, Ok, Err, Result, List, ◌⊎◌, inl, inr}
use Rattle.std.proofs.lemmas.List.{length-reverse}
use Rattle.cfs_ids.specs.declared.ids.PlaceNo.{PlaceNo}
use Rattle.cfs_ids.specs.declared.ids.Client.{Client}
use Rattle.cfs_rules.specs.Facts.{Unlocked}
use Rattle.cfs_rules.proofs.Locks.{turn-unlocked}
use Rattle.cfs_rules.specs.Worlds.{World, Counts, AreCounts, Progress, next_ask}
use Rattle.cfs_actor.specs.declared.client_state.ClientState.{ClientState}
use Rattle.cfs_actor.specs.Clients.{client_of, progress_of}
use Rattle.cfs_view.specs.Held.{Held}
use Rattle.cfs_view.specs.Views.{held, counts_of}
use Rattle.cfs_core.specs.Clients.{progress_in, works_with, world_in}
use Rattle.cfs_core.specs.Reach.{ProgressThere, RowsThere, places_there}
use Rattle.cfs_core.specs.Counted.{IsCounted}
use Rattle.cfs_ids.specs.declared.memory.NoMemory.{NoMemory}
use Rattle.cfs_core.specs.declared.turned.Turned.{Turned}
use Rattle.cfs_core.specs.declared.turned.Turned.TheVariants.{Stepped, Idle, Full}
use Rattle.cfs_core.specs.Parts.{held_stepped}
use Rattle.cfs_core.specs.Weave.{world_from}
use Rattle.cfs_core.proofs.States.{members_of-set, no-index}
use Rattle.cfs_core.proofs.Turns.{stepped-world, same-clients}
use Rattle.cfs_core.proofs.Alike.{alike-set}
use Rattle.cfs_core.proofs.Among.{stepped-counted, stepped-held, stepped-named, there-set, was-progress, was-client}
use Rattle.cfs_core.proofs.Counting.{asked-low, full-log, many-steps, log-room}
use Rattle.cfs_core.proofs.turning.turn_among.Goals as goal

pub unreachable-requires : goal.unreachable-requires
unreachable-requires c = no-index c.args.clients.now.items c.args.client.0 (rw c.deref.ensures.value at (sym c.in-None.ensures)) c.requires.member

pub returns-clause-members : goal.returns-clause-members
returns-clause-members c =
    let is = c.index_mut-state.ensures.value in
    members_of-set c.args.clients.now.items c.in-Some.at c.turn_client.new.state c.index_mut-state.result.now
    (ap (λ (k : Client). k.0) c.turn_client.ensures.client ∙ ap (λ (s : ClientState). (client_of s).0) is)

pub returns-clause-stepped : goal.returns-clause-stepped
returns-clause-stepped c = λ e.
    stepped-world (counts_of c.args.places.now) c.args.clients.now.items c.in-Some.at c.index_mut-state.result.now c.turn_client.new.state c.args.client (held c.args.places.now) (held c.turn_client.new.places) (reverse c.args.order.now.items) (reverse c.turn_client.new.order.items)
    (rw c.deref.ensures.value at (sym c.in-Some.ensures)) c.index_mut-state.ensures.value c.turn_client.ensures.client (c.turn_client.ensures.stepped e)

pub returns-clause-idle : goal.returns-clause-idle
returns-clause-idle c =
    let was : progress_in c.args.clients.now.items c.args.client.0 ≡ progress_of c.index_mut-state.result.now = was-progress c.args.clients.now.items c.in-Some.at c.index_mut-state.result.now c.args.client (rw c.deref.ensures.value at (sym c.in-Some.ensures)) c.index_mut-state.ensures.value in
    rw was c.turn_client.ensures.idle

pub returns-clause-full : goal.returns-clause-full
returns-clause-full c = λ place e.
    let at = rw c.deref.ensures.value at (sym c.in-Some.ensures) in
    let is = c.index_mut-state.ensures.value in
    let was : progress_in c.args.clients.now.items c.args.client.0 ≡ progress_of c.index_mut-state.result.now = was-progress c.args.clients.now.items c.in-Some.at c.index_mut-state.result.now c.args.client at is in
    let whose : client_of c.index_mut-state.result.now ≡ c.args.client = was-client c.args.clients.now.items c.in-Some.at c.index_mut-state.result.now c.args.client at is in
    let full = c.turn_client.ensures.full place e in (
      full.0,
      full.1 ∙ ap (λ (p : Progress). next_ask (counts_of c.args.places.now) (client_of c.index_mut-state.result.now) p) (sym was) ∙ ap (λ (k : Client). next_ask (counts_of c.args.places.now) k (progress_in c.args.clients.now.items c.args.client.0)) whose,
      full.2,
      full-log (reverse c.args.order.now.items) (held c.args.places.now) (progress_in c.args.clients.now.items) (progress_of c.index_mut-state.result.now) c.args.client.0 full.0 was c.requires.sound.counted full.3,
    )

pub returns-clause-room : goal.returns-clause-room
returns-clause-room c = λ e ask next.
    let at = rw c.deref.ensures.value at (sym c.in-Some.ensures) in
    let is = c.index_mut-state.ensures.value in
    let was : progress_in c.args.clients.now.items c.args.client.0 ≡ progress_of c.index_mut-state.result.now = was-progress c.args.clients.now.items c.in-Some.at c.index_mut-state.result.now c.args.client at is in
    let whose : client_of c.index_mut-state.result.now ≡ c.args.client = was-client c.args.clients.now.items c.in-Some.at c.index_mut-state.result.now c.args.client at is in
    log-room (counts_of c.args.places.now) (client_of c.index_mut-state.result.now) (held c.args.places.now) (progress_of c.index_mut-state.result.now) ask
    (next ∙ ap (λ (k : Client). next_ask (counts_of c.args.places.now) k (progress_in c.args.clients.now.items c.args.client.0)) (sym whose) ∙ ap (λ (p : Progress). next_ask (counts_of c.args.places.now) (client_of c.index_mut-state.result.now) p) was)
    (c.turn_client.ensures.room e)

pub returns-clause-held : goal.returns-clause-held
unfolding held_stepped
returns-clause-held c = λ e ask next.
    let at = rw c.deref.ensures.value at (sym c.in-Some.ensures) in
    let is = c.index_mut-state.ensures.value in
    stepped-held (counts_of c.args.places.now) (client_of c.index_mut-state.result.now) c.args.client (progress_of c.index_mut-state.result.now) (progress_in c.args.clients.now.items c.args.client.0) (progress_of c.turn_client.new.state)
    (held c.args.places.now) (held c.turn_client.new.places) (reverse c.args.order.now.items) (reverse c.turn_client.new.order.items) ask (c.turn_client.ensures.stepped e)
    (was-client c.args.clients.now.items c.in-Some.at c.index_mut-state.result.now c.args.client at is)
    (was-progress c.args.clients.now.items c.in-Some.at c.index_mut-state.result.now c.args.client at is) next

pub returns-clause-many : goal.returns-clause-many
returns-clause-many c = λ place e.
    let at = rw c.deref.ensures.value at (sym c.in-Some.ensures) in
    let was : progress_in c.args.clients.now.items c.args.client.0 ≡ progress_of c.index_mut-state.result.now = was-progress c.args.clients.now.items c.in-Some.at c.index_mut-state.result.now c.args.client at c.index_mut-state.ensures.value in
    let full = c.turn_client.ensures.full place e in
    rw length-reverse at (many-steps (reverse c.args.order.now.items) (held c.args.places.now) (progress_in c.args.clients.now.items) full.0
    (asked-low (counts_of c.args.places.now) c.requires.sound.sized (client_of c.index_mut-state.result.now) (progress_of c.index_mut-state.result.now) full.0 full.1 (subst (λ (p : Progress). ProgressThere (counts_of c.args.places.now) p) was (c.requires.sound.there c.args.client.0)))
    c.requires.sound.counted
    (full-log (reverse c.args.order.now.items) (held c.args.places.now) (progress_in c.args.clients.now.items) (progress_of c.index_mut-state.result.now) c.args.client.0 full.0 was c.requires.sound.counted full.3))

pub returns-clause-same : goal.returns-clause-same
returns-clause-same c = λ n.
    let at = rw c.deref.ensures.value at (sym c.in-Some.ensures) in
    let kept = same-clients c.args.clients.now.items c.in-Some.at c.index_mut-state.result.now c.turn_client.new.state c.args.client at c.index_mut-state.ensures.value c.turn_client.ensures.client (c.turn_client.ensures.same_progress n) in
    ap (λ (cs : ℕ → Progress). world_from (reverse c.turn_client.new.order.items) (held c.turn_client.new.places) cs) kept
    ∙ ap (λ (h : Held). world_from (reverse c.turn_client.new.order.items) h (progress_in c.args.clients.now.items)) (c.turn_client.ensures.same_held n)
    ∙ ap (λ (o : List PlaceNo). world_from (reverse o) (held c.args.places.now) (progress_in c.args.clients.now.items)) (c.turn_client.ensures.same_order n)

pub returns-clause-steps : goal.returns-clause-steps
returns-clause-steps c = c.turn_client.ensures.one_more

decided : (r : Result Turned NoMemory) → (r ≡ Ok Stepped) ⊎ (r ≢ Ok Stepped)
decided (Ok Stepped) = inl refl
decided (Ok Idle) = inr (λ e. cc)
decided (Ok (Full place)) = inr (λ e. cc)
decided (Err e) = inr (λ e. cc)

pub turn_client-requires-clause-there : goal.turn_client-requires-clause-there
turn_client-requires-clause-there c =
    let at = rw c.deref.ensures.value at (sym c.in-Some.ensures) in
    let was = was-progress c.args.clients.now.items c.in-Some.at c.index_mut-state.result.now c.args.client at c.index_mut-state.ensures.value in
    subst (λ (p : Progress). ProgressThere (counts_of c.args.places.now) p) was (c.requires.sound.there c.args.client.0)

pub returns-clause-sound : goal.returns-clause-sound
returns-clause-sound c =
    let at = rw c.deref.ensures.value at (sym c.in-Some.ensures) in
    let is = c.index_mut-state.ensures.value in
    let all = c.args.clients.now.items in
    let old = c.index_mut-state.result.now in
    let new = c.turn_client.new.state in
    let counts = counts_of c.args.places.now in
    let same = sym c.turn_client.ensures.counts in
    let was = was-progress all c.in-Some.at old c.args.client at is in
    let now = subst (λ (p : Progress). ProgressThere counts p) was (c.requires.sound.there c.args.client.0) in
    record {
      service = c.turn_client.ensures.service;
      counted = elim (decided c.turn_client.result) [
        | inl e ↦ stepped-counted counts c.requires.sound.sized all c.in-Some.at old new c.args.client (held c.args.places.now) (held c.turn_client.new.places) (reverse c.args.order.now.items) (reverse c.turn_client.new.order.items)
            at is c.turn_client.ensures.client (c.turn_client.ensures.stepped e) now (c.turn_client.ensures.room e) c.requires.sound.counted
        | inr n ↦ (let kept = same-clients all c.in-Some.at old new c.args.client at is c.turn_client.ensures.client (c.turn_client.ensures.same_progress n) in
            subst (λ (cs : ℕ → Progress). IsCounted (reverse c.turn_client.new.order.items) (held c.turn_client.new.places) cs) (sym kept)
            (subst (λ (h : Held). IsCounted (reverse c.turn_client.new.order.items) h (progress_in all)) (sym (c.turn_client.ensures.same_held n))
            (subst (λ (o : List PlaceNo). IsCounted (reverse o) (held c.args.places.now) (progress_in all)) (sym (c.turn_client.ensures.same_order n)) c.requires.sound.counted)))
      ];
      sized = subst AreCounts same c.requires.sound.sized;
      alike = subst (λ (k : Counts). list_all (works_with k) (set all c.in-Some.at new) ≡ true) same (alike-set counts all c.in-Some.at new c.requires.sound.alike c.turn_client.ensures.alike);
      there = λ n. subst (λ (k : Counts). ProgressThere k (progress_in (set all c.in-Some.at new) n)) same
          (there-set counts all c.in-Some.at old new c.args.client at is c.turn_client.ensures.client c.requires.sound.there c.turn_client.ensures.there n);
      asked = subst (λ (k : Counts). places_there k c.turn_client.new.order.items ≡ true) same (c.turn_client.ensures.asked c.requires.sound.asked);
      named = subst (λ (k : Counts). RowsThere k (held c.turn_client.new.places).shard) same (elim (decided c.turn_client.result) [
        | inl e ↦ stepped-named counts (client_of old) (progress_of old) (progress_of new) (held c.args.places.now) (held c.turn_client.new.places) (reverse c.args.order.now.items) (reverse c.turn_client.new.order.items)
            (c.turn_client.ensures.stepped e) c.requires.sound.free now c.requires.sound.named
        | inr n ↦ subst (λ (h : Held). RowsThere counts h.shard) (sym (c.turn_client.ensures.same_held n)) c.requires.sound.named
      ]);
      free = elim (decided c.turn_client.result) [
        | inl e ↦ subst (λ (w : World). Unlocked w.shard) (sym (returns-clause-stepped c e)) (turn-unlocked counts (world_in c.args.places.now all c.args.order.now.items) c.args.client.0 c.requires.sound.free)
        | inr n ↦ subst (λ (h : Held). Unlocked h.shard) (sym (c.turn_client.ensures.same_held n)) c.requires.sound.free
      ];
    }
