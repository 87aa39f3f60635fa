-- Actors that work in what they keep show the same as before.
use Rattle.std.proofs.Common.{◌≡◌, ℕ, suc, zero, ◌+◌, ◌<◌, List, [], ◌∷◌, true, refl, sym, ap, ◌∙◌, subst, arith, set, get_or, length, take}
use Rattle.std.specs.List.{list_all}
use Rattle.std.proofs.Math.Seq.{map-set_same}
use Rattle.next_actor.specs.ActorStates.{standing_of, is_settled}
use Rattle.next_actor.specs.declared.actor_state.ActorState.{ActorState}
use Rattle.next_ids.specs.declared.ids.PlaceNo.{PlaceNo}
use Rattle.next_actor.specs.Standings.{Standing}
use Rattle.next_places.specs.declared.places.Places.{Places}
use Rattle.next_core.specs.Casts.{standings}
use Rattle.next_core.specs.Reached.{IsSound}
use Rattle.next_core.proofs.Truths.{and_left, and_right, both}

pub standings-set : (states : List ActorState) (i : ℕ) (old new : ActorState) → old ≡ get_or states i old → standing_of new ≡ standing_of old → standings (set states i new) ≡ standings states
standings-set states i old new is same = map-set_same standing_of states i new old (same ∙ ap standing_of is)

suc-more : (i : ℕ) → suc i + 1 ≡ suc (i + 1)
suc-more i = omega arith

pub settled-more : (states : List ActorState) (i : ℕ) (new : ActorState) → i < length states → list_all is_settled (take i states) ≡ true → is_settled new ≡ true → list_all is_settled (take (i + 1) (set states i new)) ≡ true
settled-more [] i new lt so_far now = absurd (omega arith)
settled-more (s ∷ states) zero new lt so_far now = both (is_settled new) true now refl
settled-more (s ∷ states) (suc i) new lt so_far now =
    ap (λ (n : ℕ). list_all is_settled (take n (s ∷ set states i new))) (suc-more i) ∙ both (is_settled s) (list_all is_settled (take (i + 1) (set states i new))) (and_left (is_settled s) _ so_far) (settled-more states i new (omega arith) (and_right (is_settled s) _ so_far) now)

-- what holds of a core holds of it with these
pub sound-settled : (places : Places) (new old : List ActorState) (order : List PlaceNo) → standings new ≡ standings old → IsSound places (standings old) order → IsSound places (standings new) order
sound-settled places new old order same sound = subst (λ (ss : List Standing). IsSound places ss order) (sym same) sound
