-- What a client's call has come to, and what a step, the client's own or another's, may make of that.
use Rattle.std.specs.Prelude.{◌≡◌, ◌≢◌, ◌≤◌, ℕ, List, Bool, true, false, ◌==◌, Option, Some, None}
use Rattle.std.specs.List.{list_any}
use Rattle.next_ids.specs.declared.ids.Stamp.{Stamp}
use Rattle.next_ids.specs.declared.ids.At.{At}
use Rattle.next_ids.specs.declared.ids.At.TheVariants.{Step, Before, After}
use Rattle.next_ids.specs.declared.ids.Node.{Node}
use Rattle.next_ids.specs.declared.ids.PlaceNo.{PlaceNo}
use Rattle.next_ids.specs.declared.time.Ts.{Ts}
use Rattle.next_ids.specs.declared.call.Call.{Call}
use Rattle.next_ids.specs.declared.call.Reply.{Reply}
use Rattle.next_ids.specs.declared.call.Reply.TheVariants.{Moved as MovedReply, Busy}
use Rattle.next_ids.specs.Namespace.{Namespace, answer}
use Rattle.next_steps.specs.declared.call_done.CallDone.{CallDone}
use Rattle.next_steps.specs.declared.entry.Entry.{Entry}
use Rattle.next_steps.specs.declared.moves.Moved.{Moved}
use Rattle.next_steps.specs.declared.moves.Moved.TheVariants.{Move, Forget}
use Rattle.next_rules.specs.Actors.{client_of}
use Rattle.next_rules.specs.Histories.{is_at, position_of, point_of}
use Rattle.next_rules.specs.Laws.{space_at}

pub data Claim : Type 0 where
  -- no step of a call that isn't finished
  Idle : Claim
  -- a call has begun, without a move or a reply
  Open : Call → (first : Stamp) → Claim
  -- a reply of it stands, at a point
  Said : Call → (first : Stamp) → At → Reply → Claim
  -- its move is made, at a step
  Made : Call → (first at : Stamp) → Ts → (made : Option Node) → Claim

-- the call that has begun, with its first step
abbrev pub begun_claim : Claim → Option (Call × Stamp)
begun_claim Idle = None
begun_claim (Open call first) = Some (call, first)
begun_claim (Said call first at reply) = Some (call, first)
begun_claim (Made call first at ts made) = Some (call, first)

-- what a finished call had come to, by its point
abbrev pub claim_at : CallDone → At → Claim
claim_at done (Step s) = Made done.call done.first s done.ts done.made
claim_at done (Before s) = Said done.call done.first (Before s) done.reply
claim_at done (After s) = Said done.call done.first (After s) done.reply

-- ---- replies
-- Busy may come at any point; every other reply is what the namespace answers
abbrev pub IsReplyIn : Namespace → Call → Reply → Type 0
IsReplyIn n call (Busy job) = Unit {0}
IsReplyIn n call reply = answer n call ≡ reply

abbrev pub stamp_at : At → Stamp
stamp_at (Step s) = s
stamp_at (Before s) = s
stamp_at (After s) = s

-- the run has a step with the stamp
abbrev pub stands : Stamp → List (PlaceNo × Entry) → Bool
stands s run = list_any (is_at s) run

-- the reply, which is no move's, is right at its point in the run, which lies at or after the call's first step
pub record IsTold (run : List (PlaceNo × Entry)) (call : Call) (first : Stamp) (at : At) (reply : Reply) : Type 0 where
  pub there : stands (stamp_at at) run ≡ true
  pub order : position_of first run ≤ position_of (stamp_at at) run
  pub right : IsReplyIn (space_at run (point_of at run)) call reply
  pub kind : reply ≢ MovedReply

-- ---- moves
-- what a step moved is none of the client's
abbrev pub IsOthers : ℕ → Option Moved → Type 0
IsOthers c None = Unit {0}
IsOthers c (Some (Move m)) = (m.client.0 == c) ≡ false
IsOthers c (Some (Forget file)) = Unit {0}

abbrev pub move_of : ℕ → Call → Ts → Option Node → Option Moved
move_of c call ts made = Some (Move (record { client = client_of c; call = call; ts = ts; made = made }))

-- ---- a step with the stamp s, after which the run is this and which moved so, leads client c from claim to claim
abbrev pub Leads : ℕ → (s : Stamp) → List (PlaceNo × Entry) → Option Moved → Claim → Claim → Type 0
Leads c s run moved Idle Idle = IsOthers c moved
Leads c s run moved (Open call first) (Open call' first') = (Open call first ≡ Open call' first') × IsOthers c moved
Leads c s run moved (Open call first) (Said call' first' at reply) =
    (Open call first ≡ Open call' first') × IsOthers c moved × IsTold run call first at reply
Leads c s run moved (Open call first) (Made call' first' at ts made) =
    (Open call first ≡ Open call' first') × (at ≡ s) × (moved ≡ move_of c call ts made)
Leads c s run moved (Said call first at reply) (Said call' first' at' reply') =
    (Said call first at reply ≡ Said call' first' at' reply') × IsOthers c moved
Leads c s run moved (Made call first at ts made) (Made call' first' at' ts' made') =
    (Made call first at ts made ≡ Made call' first' at' ts' made') × IsOthers c moved
Leads c s run moved _ _ = ⊥
