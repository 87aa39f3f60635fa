-- The actors: clients, the Renamer and the collector. What each asks next, and what it is after the entry of its step.
use Rattle.std.specs.Prelude.{ℕ, ◌+◌, List, [], ◌∷◌, ◌++◌, Bool, true, false, ◌==◌, nat_le, Option, Some, None, if◌then◌else◌}
use Rattle.next_ids.specs.declared.ids.Client.{Client}
use Rattle.next_ids.specs.declared.ids.Actor.{Actor}
use Rattle.next_ids.specs.declared.ids.Actor.TheVariants.{Client as ClientActor, Renamer, Collector}
use Rattle.next_ids.specs.declared.ids.PlaceNo.{PlaceNo}
use Rattle.next_ids.specs.declared.ids.Stamp.{Stamp}
use Rattle.next_ids.specs.declared.counts.Counts.{Counts}
use Rattle.next_ids.specs.Times.{ts_at}
use Rattle.next_ids.specs.declared.call.Call.{Call}
use Rattle.next_ids.specs.declared.call.Reply.{Reply}
use Rattle.next_steps.specs.declared.ask.Ask.{Ask}
use Rattle.next_steps.specs.declared.ask.Ask.TheVariants.{End, Stop}
use Rattle.next_steps.specs.declared.entry.Entry.{Entry}
use Rattle.next_steps.specs.declared.call_done.CallDone.{CallDone}
use Rattle.next_steps.specs.declared.call_done.ClientCalls.{ClientCalls}
use Rattle.next_steps.specs.Counts.{index_for, puts_in}
use Rattle.next_steps.specs.Phases.{Phase, Asking, Finished}
use Rattle.next_steps.specs.Calls.{ask_of, heard, begun_of}
use Rattle.next_steps.specs.JobPhases.{JobPhase}
use Rattle.next_steps.specs.JobAsks.{ask_job}
use Rattle.next_steps.specs.Jobs.{heard_job}
use Rattle.next_steps.specs.Rounds.{RoundPhase, ask_round, heard_round}

abbrev pub client_of : ℕ → Client
client_of c = record { 0 = c }

-- ---- what a client does: it ends, or it makes a call, and goes on by the reply
pub data Plan : Type 0 where
  Ends : Plan
  Calls : Call → (Reply → Plan) → Plan

abbrev pub first_of : Plan → Option Phase
first_of Ends = None
first_of (Calls call next) = Some (Asking call)

abbrev pub rest_of : Plan → Reply → Plan
rest_of Ends reply = Ends
rest_of (Calls call next) reply = next reply

-- ---- a client: its current call, what it does once that is answered, after how many steps it stops, how many it has made,
-- whether it has stopped or ended, its last number, how many nodes it has put, and the calls that are done
pub record Progress : Type 0 where
  pub current : Option Phase
  pub rest : Reply → Plan
  pub stop : Option ℕ
  pub steps : ℕ
  pub ended : Bool
  pub last : ℕ
  pub puts : ℕ
  pub done : List CallDone

-- a client at the start of its plan
abbrev pub starts : Plan → Option ℕ → Progress
starts plan stop = record {
  current = first_of plan;
  rest = rest_of plan;
  stop = stop;
  steps = 0;
  ended = false;
  last = 0;
  puts = 0;
  done = [];
}

-- whether the client has made the steps after which it stops
abbrev pub is_due : Option ℕ → (steps : ℕ) → Bool
is_due None steps = false
is_due (Some k) steps = nat_le k steps

-- what the next step is: none, the one that stops it, the one that ends it, or one of its current call
pub data Doing : Type 0 where
  Nothing : Doing
  Stops : Doing
  Leaves : Doing
  Goes : Phase → Doing

abbrev pub doing_of : (ended due : Bool) → Option Phase → Doing
doing_of true due current = Nothing
doing_of false true current = Stops
doing_of false false None = Leaves
doing_of false false (Some phase) = Goes phase

abbrev pub doing : Progress → Doing
doing p = doing_of p.ended (is_due p.stop p.steps) p.current

-- the index of the shard or store of the client's next put, where the next step is one
abbrev pub put_index : Counts → Client → (puts : ℕ) → Phase → ℕ
put_index counts c puts (Asking call) = index_for counts c puts call
put_index counts c puts phase = 0

abbrev pub asked : Counts → Client → (moment : ℕ) → Progress → Doing → Option Ask
asked counts c moment p Nothing = None
asked counts c moment p Stops = Some (Stop c)
asked counts c moment p Leaves = Some (End c)
asked counts c moment p (Goes phase) = Some (ask_of c (put_index counts c p.puts phase) (ts_at moment p.last) phase)

-- ---- the client after the entry of its step; a call that has finished makes room for the next, which its reply decides
abbrev pub with_phase : Progress → Entry → Phase → Progress
with_phase p entry (Finished done) = record p {
  current = first_of (p.rest done.reply);
  rest = rest_of (p.rest done.reply);
  steps = p.steps + 1;
  last = entry.number;
  puts = p.puts + puts_in entry.ask;
  done = p.done ++ done ∷ [];
}
with_phase p entry phase = record p {
  current = Some phase;
  steps = p.steps + 1;
  last = entry.number;
  puts = p.puts + puts_in entry.ask;
}

-- a call that the client stops in stays as it is
abbrev pub hears_doing : Progress → PlaceNo → Entry → Doing → Progress
hears_doing p place entry Nothing = p
hears_doing p place entry Stops = record p { ended = true; last = entry.number }
hears_doing p place entry Leaves = record p { ended = true; last = entry.number }
hears_doing p place entry (Goes phase) = with_phase p entry (heard phase place entry)

abbrev pub hears : Progress → PlaceNo → Entry → Progress
hears p place entry = hears_doing p place entry (doing p)

-- the client's calls: those that are done, and the one that has made a step and isn't finished
abbrev pub begun_in : Option Phase → Option (Call × Stamp)
begun_in None = None
begun_in (Some phase) = begun_of phase

abbrev pub calls_of : Client → Progress → ClientCalls
calls_of c p = record { client = c; done = p.done; begun = begun_in p.current }

-- ---- all actors: where the Renamer and the collector are, with their last numbers
pub record Actors : Type 0 where
  pub clients : ℕ → Progress
  pub job : JobPhase
  pub job_last : ℕ
  pub round : RoundPhase
  pub round_last : ℕ

abbrev pub last_of : Actors → Actor → ℕ
last_of actors (ClientActor c) = (actors.clients c.0).last
last_of actors Renamer = actors.job_last
last_of actors Collector = actors.round_last

-- what the actor asks next, at a moment: a client nothing once it has stopped or ended, the others always something
abbrev pub next_ask : Counts → Actors → (moment : ℕ) → Actor → Option Ask
next_ask counts actors moment (ClientActor c) =
    asked counts c moment (actors.clients c.0) (doing (actors.clients c.0))
next_ask counts actors moment Renamer = Some (ask_job actors.job)
next_ask counts actors moment Collector = Some (ask_round actors.round)

abbrev pub set_client : (ℕ → Progress) → ℕ → Progress → ℕ → Progress
set_client clients c p i = if i == c then p else clients i

-- the actors after the entry of a step of one
abbrev pub heard_by : Counts → Actors → Actor → PlaceNo → Entry → Actors
heard_by counts actors (ClientActor c) place entry = record actors {
  clients = set_client actors.clients c.0 (hears (actors.clients c.0) place entry);
}
heard_by counts actors Renamer place entry = record actors {
  job = heard_job actors.job place entry;
  job_last = entry.number;
}
heard_by counts actors Collector place entry = record actors {
  round = heard_round counts actors.round entry;
  round_last = entry.number;
}
