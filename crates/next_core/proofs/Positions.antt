-- The position of a state is that of where its actor stands.
use Rattle.std.proofs.Common.{◌≡◌, ℕ, ◌+◌, List, [], ◌∷◌, cond, refl, ap, arith, length}
use Rattle.std.specs.Prelude.{not, Some, None, position}
use Rattle.std.specs.List.{position_or_len}
use Rattle.std.proofs.lemmas.Bool.Decides.{nat_tests}
use Rattle.std.proofs.lemmas.List.{length-map}
use Rattle.next_ids.specs.declared.ids.Actor.{Actor}
use Rattle.next_actor.specs.ActorStates.{standing_of}
use Rattle.next_actor.specs.declared.actor_state.ActorState.{ActorState}
use Rattle.next_core.specs.Casts.{standings, is_of}

same_or_len : (states : List ActorState) (actor : Actor) → position_or_len (λ state. is_of actor (standing_of state)) states ≡ position_or_len (is_of actor) (standings states)
same_or_len [] actor = refl
same_or_len (s ∷ states) actor = ap (λ n. cond (not (is_of actor (standing_of s))) (1 + n) 0) (same_or_len states actor)

pub position-of : (states : List ActorState) (actor : Actor) (i : ℕ) → position (λ state. is_of actor (standing_of state)) states ≡ Some i → position (is_of actor) (standings states) ≡ Some i
position-of states actor i at =
    let same = same_or_len states actor in
    let long : length (standings states) ≡ length states = length-map states standing_of in
    grind (arith, nat_tests)

pub no-position : (states : List ActorState) (actor : Actor) → position (λ state. is_of actor (standing_of state)) states ≡ None → position (is_of actor) (standings states) ≡ None
no-position states actor at =
    let same = same_or_len states actor in
    let long : length (standings states) ≡ length states = length-map states standing_of in
    grind (arith, nat_tests)
