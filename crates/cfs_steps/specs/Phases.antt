-- The calls, step by step: what each asks next, and what it makes of the answer.
use Rattle.std.specs.Prelude.{ℕ, ◌+◌, List as Bytes, Bool, true, false, Option, Some, None}
use Rattle.cfs_ids.specs.declared.ids.DirId.{DirId}
use Rattle.cfs_ids.specs.declared.ids.Client.{Client}
use Rattle.cfs_ids.specs.declared.ids.PlaceNo.{PlaceNo}
use Rattle.cfs_ids.specs.declared.ids.Stamp.{Stamp}
use Rattle.cfs_ids.specs.declared.ids.At.TheVariants.{Step, Before}
use Rattle.cfs_ids.specs.declared.ids.Node.{Node}
use Rattle.cfs_ids.specs.declared.ids.Node.TheVariants.{Dir, File}
use Rattle.cfs_ids.specs.declared.errno.Errno.{Errno}
use Rattle.cfs_ids.specs.declared.errno.Errno.TheVariants.{Enoent, Eexist}
use Rattle.cfs_ids.specs.declared.call.Call.{Call}
use Rattle.cfs_ids.specs.declared.call.Call.TheVariants.{Lookup, List as ListCall, Create, Mkdir}
use Rattle.cfs_ids.specs.declared.call.Reply.{Reply}
use Rattle.cfs_ids.specs.declared.call.Reply.TheVariants.{Moved, Node as NodeReply, Rows as RowsReply, Refused}
use Rattle.cfs_steps.specs.declared.ask.Ask.{Ask}
use Rattle.cfs_steps.specs.declared.ask.Ask.TheVariants.{Read, List as ListAsk, Insert, Put, PutDir, Settle, TakeBack, End}
use Rattle.cfs_steps.specs.declared.answer.Answer.{Answer}
use Rattle.cfs_steps.specs.declared.answer.Answer.TheVariants.{Absent, Found, NoDir, Rows, New, Exists, Done, None as NoneAnswer}
use Rattle.cfs_steps.specs.declared.call_done.CallDone.{CallDone}
use Rattle.cfs_steps.specs.declared.entry.Entry.{Entry}

-- where a call is
pub data Phase : Type 0 where
  -- it has made no step
  Asking : Call → Phase
  -- a create or mkdir that has put its node; ts is the number of the put
  Inserting : DirId → Bytes ℕ → Node → (ts : ℕ) → (first : Stamp) → Phase
  -- one that has set its row at a step
  Settling : DirId → Bytes ℕ → Node → (ts : ℕ) → (first at : Stamp) → Phase
  -- one that was refused at a step
  TakingBack : DirId → Bytes ℕ → Node → Errno → (first at : Stamp) → Phase
  Finished : CallDone → Phase

-- the call that makes a node at a name
abbrev pub maker : DirId → Bytes ℕ → Node → Call
maker dir name (File file) = Create dir name
maker dir name (Dir child) = Mkdir dir name

-- the places of the shard and of the store with the index
abbrev pub shard_place : ℕ → PlaceNo
shard_place index = record { 0 = index }

abbrev pub store_place : ℕ → PlaceNo
store_place index = record { 0 = 64 + index }

-- whether the steps of the call are built; no client makes another call
abbrev pub has_steps : Call → Bool
has_steps (Lookup dir name) = true
has_steps (ListCall dir) = true
has_steps (Create dir name) = true
has_steps (Mkdir dir name) = true
has_steps call = false

abbrev pub first_ask : Client → ℕ → Call → Ask
first_ask client index (Lookup dir name) = Read dir name
first_ask client index (ListCall dir) = ListAsk dir
first_ask client index (Create dir name) = Put client (store_place index) dir
first_ask client index (Mkdir dir name) = PutDir client (shard_place index) dir name
first_ask client index call = End client

-- what the call asks next; index is that of the shard or store of the client's next put
abbrev pub ask_of : Client → ℕ → Phase → Ask
ask_of client index (Asking call) = first_ask client index call
ask_of client index (Inserting dir name node ts first) = Insert client dir name node ts
ask_of client index (Settling dir name node ts first at) = Settle node
ask_of client index (TakingBack dir name node errno first at) = TakeBack client node
ask_of client index (Finished done) = End client

-- ---- what the call makes of an answer
abbrev pub stamp_of : PlaceNo → Entry → Stamp
stamp_of place entry = record { number = entry.number; place = place }

-- a call that ends without a move: its reply holds before the step `at`
abbrev pub replied : Call → (first at last : Stamp) → Reply → Phase
replied call first at last reply = Finished (record { call = call; first = first; at = Before at; last = last; reply = reply; ts = 0; made = None })

abbrev pub heard_first : Call → Stamp → Answer → Phase
heard_first (Lookup dir name) s (Found node stamp) = replied (Lookup dir name) s s s (NodeReply node)
heard_first (Lookup dir name) s Absent = replied (Lookup dir name) s s s (Refused Enoent)
heard_first (ListCall dir) s (Rows rows) = replied (ListCall dir) s s s (RowsReply rows)
heard_first (ListCall dir) s NoDir = replied (ListCall dir) s s s (Refused Enoent)
heard_first (Create dir name) s (New (File file)) = Inserting dir name (File file) s.number s
heard_first (Mkdir dir name) s (New (Dir child)) = Inserting dir name (Dir child) s.number s
heard_first call s answer = Asking call

abbrev pub heard_insert : DirId → Bytes ℕ → Node → (ts : ℕ) → (first s : Stamp) → Answer → Phase
heard_insert dir name node ts first s (Done replaced) = Settling dir name node ts first s
heard_insert dir name node ts first s Exists = TakingBack dir name node Eexist first s
heard_insert dir name node ts first s NoDir = TakingBack dir name node Enoent first s
heard_insert dir name node ts first s answer = Inserting dir name node ts first

-- a call that ends with its move, at the step `at`
abbrev pub moved : DirId → Bytes ℕ → Node → (ts : ℕ) → (first at last : Stamp) → Phase
moved dir name node ts first at last = Finished (record { call = maker dir name node; first = first; at = Step at; last = last; reply = Moved; ts = ts; made = Some node })

abbrev pub heard_as : Phase → Stamp → Answer → Phase
heard_as (Asking call) s answer = heard_first call s answer
heard_as (Inserting dir name node ts first) s answer = heard_insert dir name node ts first s answer
heard_as (Settling dir name node ts first at) s answer = moved dir name node ts first at s
heard_as (TakingBack dir name node errno first at) s answer = replied (maker dir name node) first at s (Refused errno)
heard_as (Finished done) s answer = Finished done

-- the call after the entry of its step
abbrev pub heard : Phase → PlaceNo → Entry → Phase
heard phase place entry = heard_as phase (stamp_of place entry) entry.answer

abbrev pub done_of : Phase → Option CallDone
done_of (Finished done) = Some done
done_of _ = None

-- ---- whether a table lists the answer for what is asked
abbrev pub answers_first : Call → Answer → Bool
answers_first (Lookup dir name) (Found node stamp) = true
answers_first (Lookup dir name) Absent = true
answers_first (ListCall dir) (Rows rows) = true
answers_first (ListCall dir) NoDir = true
answers_first (Create dir name) (New (File file)) = true
answers_first (Mkdir dir name) (New (Dir child)) = true
answers_first call answer = false

abbrev pub answers_insert : Answer → Bool
answers_insert (Done replaced) = true
answers_insert Exists = true
answers_insert NoDir = true
answers_insert answer = false

abbrev pub answers_change : Answer → Bool
answers_change (Done replaced) = true
answers_change NoneAnswer = true
answers_change answer = false

abbrev pub answers : Phase → Answer → Bool
answers (Asking call) answer = answers_first call answer
answers (Inserting dir name node ts first) answer = answers_insert answer
answers (Settling dir name node ts first at) answer = answers_change answer
answers (TakingBack dir name node errno first at) answer = answers_change answer
answers (Finished done) answer = false

-- whether the call has still steps to make
abbrev pub is_going : Phase → Bool
is_going (Finished done) = false
is_going phase = true
