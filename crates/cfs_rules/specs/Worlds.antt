-- Worlds, turns and runs: shards, stores, the roster, and any number of clients.
use Rattle.std.specs.Prelude.{◌≡◌, ℕ, ◌+◌, ◌%◌, ◌≤◌, List, [], ◌∷◌, ◌++◌, Bool, true, false, nat_lt, Option, Some, None, if◌then◌else◌, ◌==◌}
use Rattle.std.specs.List.{list_any}
use Rattle.std.specs.FinMap.{empty}
use Rattle.cfs_ids.specs.declared.ids.Client.{Client}
use Rattle.cfs_ids.specs.declared.ids.DirId.{DirId}
use Rattle.cfs_ids.specs.declared.ids.Stamp.{Stamp}
use Rattle.cfs_ids.specs.declared.ids.PlaceNo.{PlaceNo}
use Rattle.cfs_ids.specs.declared.ids.Actor.TheVariants.{Client as ClientActor}
use Rattle.cfs_ids.specs.declared.ids.Node.TheVariants.{Dir}
use Rattle.cfs_ids.specs.declared.call.Call.{Call}
use Rattle.cfs_ids.specs.declared.call.Call.TheVariants.{Lookup, List as ListCall, Stat, Create, Mkdir, Unlink, Rmdir, Rename}
use Rattle.cfs_ids.specs.declared.call.Reply.{Reply}
use Rattle.cfs_ids.specs.declared.call.Reply.TheVariants.{Node as NodeReply}
use Rattle.cfs_steps.specs.declared.ask.Ask.{Ask}
use Rattle.cfs_steps.specs.declared.ask.Ask.TheVariants.{Put, PutDir, End}
use Rattle.cfs_steps.specs.declared.entry.Entry.{Entry}
use Rattle.cfs_steps.specs.declared.call_done.CallDone.{CallDone}
use Rattle.cfs_steps.specs.declared.call_done.ClientCalls.{ClientCalls}
use Rattle.cfs_steps.specs.Asks.{place_of}
use Rattle.cfs_steps.specs.Phases.{Phase, Asking, Inserting, Settling, TakingBack, Finished, maker, has_steps, ask_of, heard}
use Rattle.cfs_rules.specs.Places.{Shard, Store, Roster, Served, entry_by, number_after, serve_shard, serve_store, serve_roster, opening_shard}

abbrev pub client_of : ℕ → Client
client_of c = record { 0 = c }

-- ---- what a client does: it ends, or it makes a call, and goes on by the reply
pub data Plan : Type 0 where
  Ends : Plan
  Calls : Call → (Reply → Plan) → Plan

-- ---- a client: its current call, what it does once that is answered, whether it has ended, its last number, how many nodes
-- it has put, and the calls that are done
pub record Progress : Type 0 where
  pub current : Option Phase
  pub rest : Reply → Plan
  pub ended : Bool
  pub last : ℕ
  pub puts : ℕ
  pub done : List CallDone

abbrev pub first_of : Plan → Option Phase
first_of Ends = None
first_of (Calls call next) = Some (Asking call)

abbrev pub rest_of : Plan → Reply → Plan
rest_of Ends reply = Ends
rest_of (Calls call next) reply = next reply

-- a client at the start of its plan
abbrev pub starts : Plan → Progress
starts plan = record { current = first_of plan; rest = rest_of plan; ended = false; last = 0; puts = 0; done = [] }

-- how many shards and stores there are
pub record Counts : Type 0 where
  pub shards : ℕ
  pub stores : ℕ

-- these, and the plan of each client
pub record Setup : Type 0 where
  pub counts : Counts
  pub plans : ℕ → Plan

-- ---- a client's n-th put, counted over files and directories together, goes to the place (client + n) modulo their number
abbrev pub places_for : Counts → Call → ℕ
places_for counts (Mkdir dir name) = counts.shards
places_for counts call = counts.stores

abbrev pub put_index : Counts → Client → ℕ → Phase → ℕ
put_index counts c puts (Asking call) = (c.0 + puts) % places_for counts call
put_index counts c puts phase = 0

abbrev pub asked_next : Counts → Client → ℕ → Bool → Option Phase → Option Ask
asked_next counts c puts true current = None
asked_next counts c puts false None = Some (End c)
asked_next counts c puts false (Some phase) = Some (ask_of c (put_index counts c puts phase) phase)

-- what the client asks next: nothing once it has ended, and End after its last call
abbrev pub next_ask : Counts → Client → Progress → Option Ask
next_ask counts c p = asked_next counts c p.puts p.ended p.current

abbrev pub puts_in : Ask → ℕ
puts_in (Put client at home) = 1
puts_in (PutDir client at dir name) = 1
puts_in ask = 0

-- a call that has finished makes room for the next, which its reply decides
abbrev pub with_phase : Progress → Entry → Phase → Progress
with_phase p entry (Finished done) = record { current = first_of (p.rest done.reply); rest = rest_of (p.rest done.reply); ended = p.ended; last = entry.number; puts = p.puts + puts_in entry.ask; done = p.done ++ done ∷ [] }
with_phase p entry phase = record { current = Some phase; rest = p.rest; ended = p.ended; last = entry.number; puts = p.puts + puts_in entry.ask; done = p.done }

abbrev pub after_entry : Progress → Option Phase → PlaceNo → Entry → Progress
after_entry p None place entry = record { current = None; rest = p.rest; ended = true; last = entry.number; puts = p.puts; done = p.done }
after_entry p (Some phase) place entry = with_phase p entry (heard phase place entry)

-- the client after the entry of its step
abbrev pub hears : Progress → PlaceNo → Entry → Progress
hears p place entry = after_entry p p.current place entry

-- the call that has made a step and isn't finished, with its first step
abbrev pub begun_of : Option Phase → Option (Call × Stamp)
begun_of None = None
begun_of (Some (Asking call)) = None
begun_of (Some (Inserting dir name node ts first)) = Some (maker dir name node, first)
begun_of (Some (Settling dir name node ts first at)) = Some (maker dir name node, first)
begun_of (Some (TakingBack dir name node errno first at)) = Some (maker dir name node, first)
begun_of (Some (Finished done)) = None

abbrev pub calls_of : Client → Progress → ClientCalls
calls_of c p = record { client = c; done = p.done; begun = begun_of p.current }

-- ---- the world: what all shards, all stores and the roster have, the last number of each place, the clients, and the run,
-- the newest step first
pub record World : Type 0 where
  pub shard : Shard
  pub store : Store
  pub roster : Roster
  pub lasts : ℕ → ℕ
  pub clients : ℕ → Progress
  pub run : List (PlaceNo × Entry)

abbrev pub opening : Setup → World
opening setup = record {
  shard = opening_shard;
  store = empty;
  roster = [];
  lasts = λ place. 0;
  clients = λ c. starts (setup.plans c);
  run = [];
}

abbrev pub entry_of : {C : Type 0} → ℕ → ℕ → Ask → Served C → Entry
entry_of c number ask s = entry_by (ClientActor (client_of c)) number ask s

abbrev pub set_client : (ℕ → Progress) → ℕ → Progress → ℕ → Progress
set_client clients c p i = if i == c then p else clients i

abbrev pub set_last : (ℕ → ℕ) → ℕ → ℕ → ℕ → ℕ
set_last lasts place number i = if i == place then number else lasts i

-- the world after a step of client c, whose progress was p: what the place gave, and the step's number
abbrev pub after_shard : World → ℕ → Progress → Ask → ℕ → Served Shard → World
after_shard w c p ask number s = record w {
  shard = s.contents;
  lasts = set_last w.lasts (place_of ask).0 number;
  clients = set_client w.clients c (hears p (place_of ask) (entry_of c number ask s));
  run = (place_of ask, entry_of c number ask s) ∷ w.run;
}

abbrev pub after_store : World → ℕ → Progress → Ask → ℕ → Served Store → World
after_store w c p ask number s = record w {
  store = s.contents;
  lasts = set_last w.lasts (place_of ask).0 number;
  clients = set_client w.clients c (hears p (place_of ask) (entry_of c number ask s));
  run = (place_of ask, entry_of c number ask s) ∷ w.run;
}

abbrev pub after_roster : World → ℕ → Progress → Ask → ℕ → Served Roster → World
after_roster w c p ask number s = record w {
  roster = s.contents;
  lasts = set_last w.lasts (place_of ask).0 number;
  clients = set_client w.clients c (hears p (place_of ask) (entry_of c number ask s));
  run = (place_of ask, entry_of c number ask s) ∷ w.run;
}

abbrev pub stamped : ℕ → Ask → Stamp
stamped number ask = record { number = number; place = place_of ask }

-- places below 64 are the shards, places from there below 128 the stores, and the others the roster
abbrev pub step_in : Bool → Bool → World → ℕ → Progress → Ask → ℕ → World
step_in true store w c p ask number = after_shard w c p ask number (serve_shard w.shard (stamped number ask) ask)
step_in false true w c p ask number = after_store w c p ask number (serve_store w.store (stamped number ask) ask)
step_in false false w c p ask number = after_roster w c p ask number (serve_roster w.roster ask)

-- one step of client c with this ask
abbrev pub step : World → ℕ → Progress → Ask → World
step w c p ask = step_in (nat_lt (place_of ask).0 64) (nat_lt (place_of ask).0 128) w c p ask (number_after p.last (w.lasts (place_of ask).0))

abbrev pub turn_asking : World → ℕ → Progress → Option Ask → World
turn_asking w c p None = w
turn_asking w c p (Some ask) = step w c p ask

abbrev pub turn_of : Counts → World → ℕ → Progress → World
turn_of counts w c p = turn_asking w c p (next_ask counts (client_of c) p)

-- a turn of client c: its next step, or nothing once it has ended
abbrev pub turn : Counts → World → ℕ → World
turn counts w c = turn_of counts w c (w.clients c)

-- the world after these turns
abbrev pub run_of : Counts → List ℕ → World → World
run_of counts [] w = w
run_of counts (c ∷ cs) w = run_of counts cs (turn counts w c)

-- the world after these turns from the opening on
abbrev pub played : Setup → List ℕ → World
played setup turns = run_of setup.counts turns (opening setup)

-- ---- what is known of a setup
-- the directory that a call asks in
abbrev pub dir_of : Call → DirId
dir_of (Lookup dir name) = dir
dir_of (ListCall dir) = dir
dir_of (Stat dir name) = dir
dir_of (Create dir name) = dir
dir_of (Mkdir dir name) = dir
dir_of (Unlink dir name) = dir
dir_of (Rmdir dir name) = dir
dir_of (Rename dir name to_dir to_name) = dir
dir_of call = record { 0 = 0 }

abbrev pub knows : List ℕ → ℕ → Bool
knows dirs dir = list_any (λ d. d == dir) dirs

-- the directories that a client knows once it has this reply
abbrev pub with_told : Reply → List ℕ → List ℕ
with_told (NodeReply (Dir dir)) dirs = dir.0 ∷ dirs
with_told reply dirs = dirs

-- the steps of the call are built, and it asks in a directory that the client knows
pub record MayAsk (dirs : List ℕ) (call : Call) : Type 0 where
  pub built : has_steps call ≡ true
  pub known : knows dirs (dir_of call).0 ≡ true

-- whatever the replies are, each call of the plan asks in one of these directories, or in one that a reply has told
abbrev pub KeepsTo : List ℕ → Plan → Type 0
KeepsTo dirs Ends = Unit {0}
KeepsTo dirs (Calls call next) = MayAsk dirs call × ((reply : Reply) → KeepsTo (with_told reply dirs) (next reply))

abbrev pub IsCount : ℕ → Type 0
IsCount n = (1 ≤ n) × (n ≤ 64)

-- 1 to 64 shards, and 1 to 64 stores
pub record AreCounts (counts : Counts) : Type 0 where
  pub shards : IsCount counts.shards
  pub stores : IsCount counts.stores

-- and each client begins with the root alone
pub record IsSetup (setup : Setup) : Type 0 where
  pub counts : AreCounts setup.counts
  pub plans : (c : ℕ) → KeepsTo (0 ∷ []) (setup.plans c)
