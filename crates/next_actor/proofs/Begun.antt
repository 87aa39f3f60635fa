-- A call that hears an answer which the tables list for its ask has made a step.
use Rattle.std.proofs.Common.{◌≡◌, ℕ, Bool, List, true, false, refl, arith}
use Rattle.std.specs.Prelude.{◌==◌, Some, None, if◌then◌else◌}
use Rattle.next_ids.specs.declared.ids.Client.{Client}
use Rattle.next_ids.specs.declared.ids.DirId.{DirId}
use Rattle.next_ids.specs.declared.ids.Node.TheVariants.{Dir, File}
use Rattle.next_ids.specs.declared.ids.PlaceNo.{PlaceNo}
use Rattle.next_ids.specs.declared.ids.Stamp.{Stamp}
use Rattle.next_ids.specs.declared.time.Ts.{Ts}
use Rattle.next_ids.specs.declared.call.Call.{Call}
use Rattle.next_ids.specs.declared.call.Call.TheVariants as call
use Rattle.next_steps.specs.declared.ask.Ask.TheVariants as ask
use Rattle.next_steps.specs.declared.answer.Answer.{Answer}
use Rattle.next_steps.specs.declared.answer.Answer.TheVariants as answer
use Rattle.next_steps.specs.declared.entry.Entry.{Entry}
use Rattle.next_steps.specs.Answers.{lists}
use Rattle.next_steps.specs.Asks.{ts_of}
use Rattle.next_steps.specs.Counts.{shard_place, store_place}
use Rattle.next_steps.specs.Ends.{stamp_of}
use Rattle.next_steps.specs.Phases.{Phase, Asking, Reads, Writes, Removes, Finished, ReaderPhase, WriterPhase, RemoverPhase}
use Rattle.next_steps.specs.Readers.{heard_reading}
use Rattle.next_steps.specs.Writers.{heard_writing}
use Rattle.next_steps.specs.Removers.{heard_removing}
use Rattle.next_steps.specs.Calls.{first_ask, ask_of, heard_first, heard_as, heard}
use Rattle.next_actor.specs.States.{is_begun}

-- ---- the calls whose first step tells nothing where the answer is another
lookup-begun : (dir : DirId) (name : List ℕ) (s : Stamp) (ts : Ts) (a : Answer) → lists (ask.Read dir name) a ≡ true → is_begun (heard_first (call.Lookup dir name) s ts a) ≡ true
lookup-begun dir name s ts (answer.Found node stamp) listed = refl
lookup-begun dir name s ts answer.Absent listed = refl
lookup-begun dir name s ts (answer.Locked job) listed = refl
lookup-begun dir name s ts _ listed = absurd (cc)

list-begun : (dir : DirId) (s : Stamp) (ts : Ts) (a : Answer) → lists (ask.List dir) a ≡ true → is_begun (heard_first (call.List dir) s ts a) ≡ true
list-begun dir s ts (answer.Rows rows) listed = refl
list-begun dir s ts answer.NoDir listed = refl
list-begun dir s ts (answer.Locked job) listed = refl
list-begun dir s ts (answer.Leaving note) listed = refl
list-begun dir s ts _ listed = absurd (cc)

create-begun : (client : Client) (at : PlaceNo) (dir : DirId) (name : List ℕ) (s : Stamp) (ts : Ts) (a : Answer) → lists (ask.Put client at dir) a ≡ true → is_begun (heard_first (call.Create dir name) s ts a) ≡ true
create-begun client at dir name s ts (answer.New node) listed = refl
create-begun client at dir name s ts _ listed = absurd (cc)

mkdir-begun : (client : Client) (at : PlaceNo) (dir : DirId) (name : List ℕ) (s : Stamp) (ts : Ts) (a : Answer) → lists (ask.PutDir client at dir name) a ≡ true → is_begun (heard_first (call.Mkdir dir name) s ts a) ≡ true
mkdir-begun client at dir name s ts (answer.New node) listed = refl
mkdir-begun client at dir name s ts _ listed = absurd (cc)

unlink-begun : (client : Client) (dir : DirId) (name : List ℕ) (last : Ts) (s : Stamp) (ts : Ts) (a : Answer) → lists (ask.Delete client dir name last) a ≡ true → is_begun (heard_first (call.Unlink dir name) s ts a) ≡ true
unlink-begun client dir name last s ts (answer.Done (Some (File file))) listed = refl
unlink-begun client dir name last s ts (answer.Done (Some (Dir child))) listed = absurd (cc)
unlink-begun client dir name last s ts (answer.Done None) listed = absurd (cc)
unlink-begun client dir name last s ts answer.Absent listed = refl
unlink-begun client dir name last s ts answer.IsDir listed = refl
unlink-begun client dir name last s ts (answer.Locked job) listed = refl
unlink-begun client dir name last s ts _ listed = absurd (cc)

size-begun : (c : Call) (file : _) (size : ℕ) (s : Stamp) (ts : Ts) (a : Answer) → c ≡ call.Truncate file size → lists (ask.SetSize (record { 0 = 0 }) file size ts) a ≡ true → is_begun (heard_first (call.Truncate file size) s ts a) ≡ true
size-begun c file size s ts (answer.Done replaced) e listed = refl
size-begun c file size s ts answer.None e listed = refl
size-begun c file size s ts _ e listed = absurd (cc)

swap-begun : (client : Client) (dir : DirId) (name : List ℕ) (to_dir : DirId) (to_name : List ℕ) (last : Ts) (s : Stamp) (ts : Ts) (a : Answer) → lists (ask.Swap client dir name to_name last) a ≡ true → is_begun (heard_first (call.Rename dir name to_dir to_name) s ts a) ≡ true
swap-begun client dir name to_dir to_name last s ts (answer.Done None) listed = refl
swap-begun client dir name to_dir to_name last s ts (answer.Done (Some (File file))) listed = refl
swap-begun client dir name to_dir to_name last s ts (answer.Done (Some (Dir child))) listed = absurd (cc)
swap-begun client dir name to_dir to_name last s ts answer.Same listed = refl
swap-begun client dir name to_dir to_name last s ts answer.Absent listed = refl
swap-begun client dir name to_dir to_name last s ts answer.TargetIsDir listed = refl
swap-begun client dir name to_dir to_name last s ts answer.SourceIsDir listed = refl
swap-begun client dir name to_dir to_name last s ts (answer.Locked job) listed = refl
swap-begun client dir name to_dir to_name last s ts _ listed = absurd (cc)

submit-begun : (client : Client) (dir : DirId) (name : List ℕ) (to_dir : DirId) (to_name : List ℕ) (last : Ts) (s : Stamp) (ts : Ts) (a : Answer) → lists (ask.Submit client dir name to_dir to_name last) a ≡ true → is_begun (heard_first (call.Rename dir name to_dir to_name) s ts a) ≡ true
submit-begun client dir name to_dir to_name last s ts (answer.Submitted job) listed = refl
submit-begun client dir name to_dir to_name last s ts _ listed = absurd (cc)

-- ---- any call
first-begun : (client : Client) (index : ℕ) (last : Ts) (c : Call) (s : Stamp) (ts : Ts) (a : Answer) → lists (first_ask client index last c) a ≡ true → is_begun (heard_first c s ts a) ≡ true
first-begun client index last (call.Lookup dir name) s ts a listed = lookup-begun dir name s ts a listed
first-begun client index last (call.List dir) s ts a listed = list-begun dir s ts a listed
first-begun client index last call.StatRoot s ts a listed = grind arith
first-begun client index last (call.Stat dir name) s ts a listed = grind arith
first-begun client index last (call.Create dir name) s ts a listed = create-begun client (store_place index) dir name s ts a listed
first-begun client index last (call.Mkdir dir name) s ts a listed = mkdir-begun client (shard_place index) dir name s ts a listed
first-begun client index last (call.Unlink dir name) s ts a listed = unlink-begun client dir name last s ts a listed
first-begun client index last (call.Rmdir dir name) s ts a listed = grind arith
first-begun client index last (call.Truncate file size) s ts a listed = size-begun (call.Truncate file size) file size s ts a refl listed
first-begun client index last (call.Rename dir name to_dir to_name) s ts a listed = by_dir (dir.0 == to_dir.0) listed
  where
    by_dir : (b : Bool) → lists (if b then ask.Swap client dir name to_name last else ask.Submit client dir name to_dir to_name last) a ≡ true → is_begun (heard_first (call.Rename dir name to_dir to_name) s ts a) ≡ true
    by_dir true h = swap-begun client dir name to_dir to_name last s ts a h
    by_dir false h = submit-begun client dir name to_dir to_name last s ts a h

-- a call that has made a step never asks anew
reading-begun : (phase : ReaderPhase) (s : Stamp) (a : Answer) → is_begun (heard_reading phase s a) ≡ true
reading-begun phase s a = grind arith

writing-begun : (phase : WriterPhase) (s : Stamp) (a : Answer) → is_begun (heard_writing phase s a) ≡ true
writing-begun phase s a = grind arith

removing-begun : (phase : RemoverPhase) (s : Stamp) (ts : Ts) (a : Answer) → is_begun (heard_removing phase s ts a) ≡ true
removing-begun phase s ts a = grind arith

as-begun : (client : Client) (index : ℕ) (last : Ts) (phase : Phase) (s : Stamp) (ts : Ts) (a : Answer) → lists (ask_of client index last phase) a ≡ true → is_begun (heard_as phase s ts a) ≡ true
as-begun client index last (Asking c) s ts a listed = first-begun client index last c s ts a listed
as-begun client index last (Reads phase) s ts a listed = reading-begun phase s a
as-begun client index last (Writes phase) s ts a listed = writing-begun phase s a
as-begun client index last (Removes phase) s ts a listed = removing-begun phase s ts a
as-begun client index last (Finished done) s ts a listed = refl

pub listed-begun : (client : Client) (index : ℕ) (last : Ts) (phase : Phase) (place : PlaceNo) (entry : Entry) → entry.ask ≡ ask_of client index last phase → lists entry.ask entry.answer ≡ true → is_begun (heard phase place entry) ≡ true
listed-begun client index last phase place entry same listed = as-begun client index last phase (stamp_of place entry) (ts_of entry) entry.answer (rw (← same) listed)
