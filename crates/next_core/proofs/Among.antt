-- A turn among all actors, by the state of the one that makes it.
use Rattle.std.proofs.Common.{◌≡◌, ℕ, ◌<◌, List, true, false, sym, ap, ◌∙◌, subst, set, get_or}
use Rattle.std.specs.Prelude.{Some, position}
use Rattle.std.specs.List.{list_all}
use Rattle.std.proofs.Math.ListN.{get_or-map}
use Rattle.std.proofs.lemmas.List.{map-set}
use Rattle.next_ids.specs.declared.ids.Actor.{Actor}
use Rattle.next_ids.specs.declared.ids.PlaceNo.{PlaceNo}
use Rattle.next_ids.specs.declared.counts.Counts.{Counts}
use Rattle.next_steps.specs.declared.ask.Ask.{Ask}
use Rattle.next_steps.specs.Asks.{place_of}
use Rattle.next_rules.specs.Actors.{next_ask}
use Rattle.next_rules.specs.Actors as rules
use Rattle.next_rules.specs.Worlds.{turn}
use Rattle.next_actor.specs.Standings.{Standing, actor_of, last_of, next_of}
use Rattle.next_actor.specs.ActorStates.{standing_of}
use Rattle.next_actor.specs.declared.actor_state.ActorState.{ActorState}
use Rattle.next_places.specs.Held.{Held}
use Rattle.next_core.specs.Casts.{standings, is_of, standing_at, actors_in, clients_in, works_with}
use Rattle.next_core.specs.Counted.{IsCounted}
use Rattle.next_core.specs.Parts.{Part, turn_part, full_next}
use Rattle.next_core.specs.Weave.{world_from}
use Rattle.next_core.proofs.Alike.{alike-at, alike-set, next-at, last-at, set-same, clients-like}
use Rattle.next_core.proofs.Casting.{within-at, standing-at}
use Rattle.next_core.proofs.Counted.{IsCountedIn, turn-counted}
use Rattle.next_core.proofs.Positions.{position-of}
use Rattle.next_core.proofs.Turns.{part_of, stepped-world}

module _ (counts : Counts) (states : List ActorState) (actor : Actor) (i : ℕ) (old : ActorState)
    (found : position (λ state. is_of actor (standing_of state)) states ≡ Some i) (is : old ≡ get_or states i old)
    (all : list_all (works_with counts) (standings states) ≡ true) where
  at : position (is_of actor) (standings states) ≡ Some i
  at = position-of states actor i found

  here : get_or (standings states) i (standing_of old) ≡ standing_of old
  here = get_or-map standing_of states i old ∙ ap standing_of (sym is)

  pub works-here : works_with counts (standing_of old) ≡ true
  works-here = subst (λ (s : Standing). works_with counts s ≡ true) here (alike-at counts (standings states) i (standing_of old) (within-at (standings states) actor i at) all)

  pub next-here : (moment : ℕ) → next_of (standing_of old) moment ≡ next_ask counts (actors_in (standings states)) moment actor
  next-here moment = ap (λ (s : Standing). next_of s moment) (sym here) ∙ next-at counts (standings states) actor moment i (standing_of old) at all

  pub last-here : last_of (standing_of old) ≡ rules.last_of (actors_in (standings states)) actor
  last-here = ap last_of (sym here) ∙ last-at counts (standings states) actor i (standing_of old) at all

  pub stands-here : standing_at (standings states) actor ≡ standing_of old
  stands-here = standing-at (standings states) actor i (standing_of old) at ∙ here

  pub set-here : (new : ActorState) → standings (set states i new) ≡ set (standings states) i (standing_of new)
  set-here new = map-set standing_of states i new

  pub alike-here : (new : ActorState) → works_with counts (standing_of new) ≡ true → list_all (works_with counts) (standings (set states i new)) ≡ true
  alike-here new works = ap (list_all (works_with counts)) (set-here new) ∙ alike-set counts (standings states) i (standing_of new) all works

  pub same-here : (new : ActorState) → standing_of new ≡ standing_of old → standings (set states i new) ≡ standings states
  same-here new same = set-here new ∙ set-same (standings states) i (standing_of new) (standing_of old) (same ∙ sym here)

  pub members-here : (new : ActorState) → actor_of (standing_of new) ≡ actor_of (standing_of old) → clients_in (standings (set states i new)) ≡ clients_in (standings states)
  members-here new same = ap clients_in (set-here new) ∙ clients-like (standings states) i (standing_of new) (standing_of old) (same ∙ ap actor_of (sym here))

  pub stepped-here : (new : ActorState) (h h' : Held) (order order' : List PlaceNo) (moment : ℕ) → part_of order' h' (standing_of new) ≡ turn_part moment (part_of order h (standing_of old))
      → world_from order' h' (actors_in (standings (set states i new))) ≡ turn counts (world_from order h (actors_in (standings states))) (record { actor = actor; moment = moment })
  stepped-here new h h' order order' moment step =
      ap (λ (ts : List Standing). world_from order' h' (actors_in ts)) (set-here new)
      ∙ stepped-world counts (standings states) actor i (standing_of old) (standing_of new) h h' order order' moment at all
      (step ∙ ap (λ (s : Standing). turn_part moment (part_of order h s)) (sym here))

  pub counted-here : (new : ActorState) (h h' : Held) (order order' : List PlaceNo) (moment : ℕ) → part_of order' h' (standing_of new) ≡ turn_part moment (part_of order h (standing_of old))
      → IsCounted order h (actors_in (standings states)) → ((ask : Ask) → Some ask ≡ next_of (standing_of old) moment → (place_of ask).0 < 130) → full_next moment h (standing_of old) ≡ false
      → IsCounted order' h' (actors_in (standings (set states i new)))
  counted-here new h h' order order' moment step k low room =
      subst (λ (ts : List Standing). IsCounted order' h' (actors_in ts)) (sym (set-here new))
      (subst (λ (part : Part). IsCountedIn part (standings states) i) (sym (step ∙ ap (λ (s : Standing). turn_part moment (part_of order h s)) (sym here)))
      (turn-counted counts order h (standings states) actor i (standing_of old) moment at all k
      (λ ask next. low ask (next ∙ ap (λ (s : Standing). next_of s moment) here))
      (ap (full_next moment h) here ∙ room)))
