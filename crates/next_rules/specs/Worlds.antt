-- Worlds, turns and runs: the places of a service, the actors, and the steps that they have made.
use Rattle.std.specs.Prelude.{ℕ, List, [], ◌∷◌, Bool, true, false, nat_lt, Option, Some, None, if◌then◌else◌, ◌==◌}
use Rattle.std.specs.FinMap.{empty}
use Rattle.next_ids.specs.declared.ids.Stamp.{Stamp}
use Rattle.next_ids.specs.declared.ids.PlaceNo.{PlaceNo}
use Rattle.next_ids.specs.declared.ids.Actor.{Actor}
use Rattle.next_ids.specs.declared.counts.Counts.{Counts}
use Rattle.next_steps.specs.declared.ask.Ask.{Ask}
use Rattle.next_steps.specs.declared.entry.Entry.{Entry}
use Rattle.next_steps.specs.Asks.{place_of}
use Rattle.next_steps.specs.JobPhases.{Waiting}
use Rattle.next_steps.specs.Rounds.{Starting}
use Rattle.next_rules.specs.Contents.{Shard, Store, Desk, Roster, Served, entry_by, number_after, opening_shard, opening_roster}
use Rattle.next_rules.specs.Places.{serve_shard}
use Rattle.next_rules.specs.Stores.{serve_store}
use Rattle.next_rules.specs.Desks.{serve_desk, serve_roster}
use Rattle.next_rules.specs.Actors.{Plan, Actors, starts, last_of, next_ask, heard_by}

-- ---- what all shards, all stores, the desk and the roster hold
pub record Service : Type 0 where
  pub shard : Shard
  pub store : Store
  pub desk : Desk
  pub roster : Roster

abbrev pub opening_service : Service
opening_service = record { shard = opening_shard; store = empty; desk = []; roster = opening_roster }

abbrev pub in_shard : Service → Served Shard → Served Service
in_shard v s = record { answer = s.answer; contents = record v { shard = s.contents }; moved = s.moved }

abbrev pub in_store : Service → Served Store → Served Service
in_store v s = record { answer = s.answer; contents = record v { store = s.contents }; moved = s.moved }

abbrev pub in_desk : Service → Option (Served Desk) → Option (Served Service)
in_desk v None = None
in_desk v (Some s) = Some (record { answer = s.answer; contents = record v { desk = s.contents }; moved = s.moved })

abbrev pub in_roster : Service → Served Roster → Served Service
in_roster v s = record { answer = s.answer; contents = record v { roster = s.contents }; moved = s.moved }

-- places below 64 are the shards, those below 128 the stores, 128 is the desk, and then comes the roster
abbrev pub serve_in : (shard store desk : Bool) → Service → (at : Stamp) → (moment : ℕ) → Ask → Option (Served Service)
serve_in true store desk v at moment ask = Some (in_shard v (serve_shard v.shard at moment ask))
serve_in false true desk v at moment ask = Some (in_store v (serve_store v.store at moment ask))
serve_in false false true v at moment ask = in_desk v (serve_desk v.desk ask)
serve_in false false false v at moment ask = Some (in_roster v (serve_roster v.roster ask))

-- what the place of the ask gives; None is no step
abbrev pub serve : Service → (at : Stamp) → (moment : ℕ) → Ask → Option (Served Service)
serve v at moment ask =
    serve_in (nat_lt at.place.0 64) (nat_lt at.place.0 128) (nat_lt at.place.0 129) v at moment ask

-- ---- the world: these, the last number of each place, the actors, and the run, the newest step first
pub record World : Type 0 where
  pub service : Service
  pub lasts : ℕ → ℕ
  pub actors : Actors
  pub run : List (PlaceNo × Entry)

abbrev pub set_last : (ℕ → ℕ) → ℕ → ℕ → ℕ → ℕ
set_last lasts place number i = if i == place then number else lasts i

abbrev pub stamped : ℕ → Ask → Stamp
stamped number ask = record { number = number; place = place_of ask }

-- the world after a step of the actor, which the entry tells
abbrev pub with_entry : Counts → World → Actor → PlaceNo → Entry → Service → World
with_entry counts w actor place entry service = record {
  service = service;
  lasts = set_last w.lasts place.0 entry.number;
  actors = heard_by counts w.actors actor place entry;
  run = (place, entry) ∷ w.run;
}

abbrev pub after_served : Counts → World → Actor → Ask → (number moment : ℕ) → Option (Served Service) → World
after_served counts w actor ask number moment None = w
after_served counts w actor ask number moment (Some s) =
    with_entry counts w actor (place_of ask) (entry_by actor number moment ask s) s.contents

-- a step's number is one more than the greater of its actor's last and its place's last
abbrev pub step_number : World → Actor → Ask → ℕ
step_number w actor ask = number_after (last_of w.actors actor) (w.lasts (place_of ask).0)

abbrev pub step_numbered : Counts → World → Actor → (moment : ℕ) → Ask → (number : ℕ) → World
step_numbered counts w actor moment ask number =
    after_served counts w actor ask number moment (serve w.service (stamped number ask) moment ask)

abbrev pub step : Counts → World → Actor → (moment : ℕ) → Ask → World
step counts w actor moment ask = step_numbered counts w actor moment ask (step_number w actor ask)

abbrev pub turn_asking : Counts → World → Actor → (moment : ℕ) → Option Ask → World
turn_asking counts w actor moment None = w
turn_asking counts w actor moment (Some ask) = step counts w actor moment ask

-- ---- a turn is of an actor, at a moment of its clock: its next step, or nothing where it has ended or the desk has nothing
-- to tell. Moments may be any
pub record Turn : Type 0 where
  pub actor : Actor
  pub moment : ℕ

abbrev pub turn : Counts → World → Turn → World
turn counts w t = turn_asking counts w t.actor t.moment (next_ask counts w.actors t.moment t.actor)

-- the world after these turns
abbrev pub run_of : Counts → List Turn → World → World
run_of counts [] w = w
run_of counts (t ∷ turns) w = run_of counts turns (turn counts w t)

-- ---- how many shards and stores there are, the plan of each client, and after how many steps it stops
pub record Setup : Type 0 where
  pub counts : Counts
  pub plans : ℕ → Plan
  pub stops : ℕ → Option ℕ

abbrev pub opening : Setup → World
opening setup = record {
  service = opening_service;
  lasts = λ place. 0;
  actors = record {
    clients = λ c. starts (setup.plans c) (setup.stops c);
    job = Waiting;
    job_last = 0;
    round = Starting;
    round_last = 0;
  };
  run = [];
}

-- the world after these turns from the opening on
abbrev pub played : Setup → List Turn → World
played setup turns = run_of setup.counts turns (opening setup)
