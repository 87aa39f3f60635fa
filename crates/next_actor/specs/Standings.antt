-- Any actor as its rule sees it: where it is, and its last number.
use Rattle.std.specs.Prelude.{◌≡◌, ℕ, Bool, true, false, Option, Some}
use Rattle.next_ids.specs.declared.ids.Actor.{Actor}
use Rattle.next_ids.specs.declared.ids.Actor.TheVariants.{Client as ClientActor, Renamer, Collector}
use Rattle.next_ids.specs.declared.ids.Client.{Client}
use Rattle.next_ids.specs.declared.ids.PlaceNo.{PlaceNo}
use Rattle.next_ids.specs.declared.counts.Counts.{Counts}
use Rattle.next_steps.specs.declared.ask.Ask.{Ask}
use Rattle.next_steps.specs.declared.entry.Entry.{Entry}
use Rattle.next_steps.specs.JobPhases.{JobPhase}
use Rattle.next_steps.specs.JobAsks.{ask_job}
use Rattle.next_steps.specs.Jobs.{heard_job}
use Rattle.next_steps.specs.Rounds.{RoundPhase, ask_round, heard_round}
use Rattle.next_rules.specs.Actors.{Progress, Actors, doing, asked, hears}
use Rattle.next_actor.specs.States.{is_listed, is_final}

pub data Standing : Type 0 where
  OfClient : Counts → Client → Progress → Standing
  OfRenamer : JobPhase → (last : ℕ) → Standing
  OfCollector : Counts → RoundPhase → (last : ℕ) → Standing

abbrev pub actor_of : Standing → Actor
actor_of (OfClient counts c p) = ClientActor c
actor_of (OfRenamer phase last) = Renamer
actor_of (OfCollector counts phase last) = Collector

abbrev pub last_of : Standing → ℕ
last_of (OfClient counts c p) = p.last
last_of (OfRenamer phase last) = last
last_of (OfCollector counts phase last) = last

-- only a client stops or ends
abbrev pub has_ended : Standing → Bool
has_ended (OfClient counts c p) = p.ended
has_ended standing = false

-- what it asks next, at a moment
abbrev pub next_of : Standing → (moment : ℕ) → Option Ask
next_of (OfClient counts c p) moment = asked counts c moment p (doing p)
next_of (OfRenamer phase last) moment = Some (ask_job phase)
next_of (OfCollector counts phase last) moment = Some (ask_round phase)

-- the next step stops or ends it
abbrev pub is_leaving : Standing → Bool
is_leaving (OfClient counts c p) = is_final (doing p)
is_leaving standing = false

-- the entry of a client's step has the ask that the client had next; the others hear any entry
abbrev pub HasAsked : Standing → Entry → Type 0
HasAsked (OfClient counts c p) entry = Some entry.ask ≡ asked counts c entry.moment p (doing p)
HasAsked standing entry = Unit {0}

-- where it is a step of a call, the tables list its answer
abbrev pub has_listed : Standing → Entry → Bool
has_listed (OfClient counts c p) entry = is_listed entry (doing p)
has_listed standing entry = true

-- after the entry of its step
abbrev pub after : Standing → PlaceNo → Entry → Standing
after (OfClient counts c p) place entry = OfClient counts c (hears p place entry)
after (OfRenamer phase last) place entry = OfRenamer (heard_job phase place entry) entry.number
after (OfCollector counts phase last) place entry = OfCollector counts (heard_round counts phase entry) entry.number

-- one of all actors
abbrev pub standing_in : Counts → Actors → Actor → Standing
standing_in counts actors (ClientActor c) = OfClient counts c (actors.clients c.0)
standing_in counts actors Renamer = OfRenamer actors.job actors.job_last
standing_in counts actors Collector = OfCollector counts actors.round actors.round_last
