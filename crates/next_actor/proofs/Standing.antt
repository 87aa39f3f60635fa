-- A step of one actor leaves the others where they are, and takes it where its rule says.
use Rattle.std.proofs.Common.{◌≡◌, ◌≢◌, ℕ, refl, ap, arith}
use Rattle.std.specs.Prelude.{◌==◌, true, false}
use Rattle.std.proofs.lemmas.Bool.Decides.{nat_tests}
use Rattle.next_ids.specs.declared.ids.Actor.{Actor}
use Rattle.next_ids.specs.declared.ids.Actor.TheVariants.{Client as ClientActor, Renamer, Collector}
use Rattle.next_ids.specs.declared.ids.PlaceNo.{PlaceNo}
use Rattle.next_ids.specs.declared.counts.Counts.{Counts}
use Rattle.next_steps.specs.declared.entry.Entry.{Entry}
use Rattle.next_rules.specs.Actors.{Actors, next_ask, heard_by}
use Rattle.next_rules.specs.Actors as rules
use Rattle.next_actor.specs.Standings.{actor_of, last_of, next_of, after, standing_in}

pub actor-standing_in : (counts : Counts) (actors : Actors) (actor : Actor) → actor_of (standing_in counts actors actor) ≡ actor
actor-standing_in counts actors (ClientActor c) = refl
actor-standing_in counts actors Renamer = refl
actor-standing_in counts actors Collector = refl

pub last-standing_in : (counts : Counts) (actors : Actors) (actor : Actor) → last_of (standing_in counts actors actor) ≡ rules.last_of actors actor
last-standing_in counts actors (ClientActor c) = refl
last-standing_in counts actors Renamer = refl
last-standing_in counts actors Collector = refl

pub next-standing_in : (counts : Counts) (actors : Actors) (actor : Actor) (moment : ℕ) → next_of (standing_in counts actors actor) moment ≡ next_ask counts actors moment actor
next-standing_in counts actors (ClientActor c) moment = refl
next-standing_in counts actors Renamer moment = refl
next-standing_in counts actors Collector moment = refl

-- the actor itself
pub standing_in-heard_by : (counts : Counts) (actors : Actors) (actor : Actor) (place : PlaceNo) (entry : Entry) → standing_in counts (heard_by counts actors actor place entry) actor ≡ after (standing_in counts actors actor) place entry
standing_in-heard_by counts actors (ClientActor c) place entry = let same : (c.0 == c.0) ≡ true = grind (arith, nat_tests) in rw same refl
standing_in-heard_by counts actors Renamer place entry = refl
standing_in-heard_by counts actors Collector place entry = refl

-- each other one
pub others-heard_by : (counts : Counts) (actors : Actors) (actor other : Actor) (place : PlaceNo) (entry : Entry) → other ≢ actor → standing_in counts (heard_by counts actors actor place entry) other ≡ standing_in counts actors other
others-heard_by counts actors (ClientActor c) (ClientActor d) place entry differ = by_test (d.0 == c.0) refl
  where
    by_test : (b : _) → (d.0 == c.0) ≡ b → standing_in counts (heard_by counts actors (ClientActor c) place entry) (ClientActor d) ≡ standing_in counts actors (ClientActor d)
    by_test true h = let same : d.0 ≡ c.0 = grind (arith, nat_tests) in let clash : ClientActor d ≡ ClientActor c = ap (λ (n : ℕ). ClientActor (record { 0 = n })) same in absurd (differ clash)
    by_test false h = rw h refl
others-heard_by counts actors (ClientActor c) Renamer place entry differ = refl
others-heard_by counts actors (ClientActor c) Collector place entry differ = refl
others-heard_by counts actors Renamer (ClientActor d) place entry differ = refl
others-heard_by counts actors Renamer Renamer place entry differ = absurd (differ refl)
others-heard_by counts actors Renamer Collector place entry differ = refl
others-heard_by counts actors Collector (ClientActor d) place entry differ = refl
others-heard_by counts actors Collector Renamer place entry differ = refl
others-heard_by counts actors Collector Collector place entry differ = absurd (differ refl)
