-- A run in full, worked out by the rules: client 1 makes a directory and removes it, while client 2 makes a file in it and
-- meets the mark. One shard, one store; client 1's clock stands at 50, and that of client 2 at 20.
use Rattle.std.specs.Prelude.{◌==◌}
use Rattle.std.proofs.Common.{◌≡◌, ◌∙◌, ℕ, List, [], ◌∷◌, Bool, true, false, refl, ap, arith}
use Rattle.std.specs.Prelude.{Option, Some, None}
use Rattle.std.proofs.lemmas.Bool.Decides.{nat_tests}
use Rattle.std.specs.Cmp.Lexicographic.{nat_list_cmp_total, slice_cmp}
use Rattle.std.specs.FinMap.{insert, remove, empty, gets, entries-insert}
use Rattle.next_ids.proofs.Entries.{entries-empty}
use Rattle.next_ids.specs.declared.counts.Counts.{Counts}
use Rattle.next_ids.specs.declared.ids.Actor.{Actor}
use Rattle.next_ids.specs.declared.ids.Actor.TheVariants.{Client as ClientActor}
use Rattle.next_ids.specs.declared.ids.Client.{Client}
use Rattle.next_ids.specs.declared.ids.DirId.{DirId}
use Rattle.next_ids.specs.declared.ids.PlaceNo.{PlaceNo}
use Rattle.next_ids.specs.declared.ids.Stamp.{Stamp}
use Rattle.next_ids.specs.declared.ids.Node.TheVariants.{Dir, File}
use Rattle.next_ids.specs.declared.note.MarkNote.{MarkNote}
use Rattle.next_ids.specs.declared.time.Ts.{Ts}
use Rattle.next_ids.specs.Times.{ts_at}
use Rattle.next_ids.specs.declared.call.Call.TheVariants as call
use Rattle.next_ids.specs.declared.call.Call.{Call}
use Rattle.next_ids.specs.declared.call.Reply.{Reply}
use Rattle.next_ids.specs.declared.call.Reply.TheVariants as reply
use Rattle.next_steps.specs.declared.ask.Ask.{Ask}
use Rattle.next_steps.specs.declared.ask.Ask.TheVariants as ask
use Rattle.next_steps.specs.declared.answer.Answer.{Answer}
use Rattle.next_steps.specs.declared.answer.Answer.TheVariants as answer
use Rattle.next_steps.specs.declared.moves.Moved.{Moved}
use Rattle.std.specs.Ordering.{nat_cmp}
use Rattle.next_steps.specs.declared.contents.Row.{Row}
use Rattle.next_steps.specs.declared.contents.RowLock.{RowLock}
use Rattle.next_steps.specs.declared.contents.DirRec.{DirRec}
use Rattle.next_rules.specs.Contents.{Shard, Served, empty_attr, root_rec}
use Rattle.next_rules.specs.Primitives.{insert_done}
use Rattle.next_rules.specs.Stores.{new_file}
use Rattle.next_rules.specs.Removing.{remove_done, has_rows}
use Rattle.next_rules.specs.Changes.{set_rec, cut_rec, end_debt}
use Rattle.next_rules.specs.Actors.{Plan, Ends, Calls}
use Rattle.next_rules.specs.Worlds.{Service, World, Setup, Turn, opening_service, serve, opening, with_entry, after_served, turn, run_of, played}
use Rattle.next_rules.specs.Histories.{world_history}
use Rattle.next_steps.specs.declared.line.Outcome.{Outcome}
use Rattle.next_steps.specs.declared.line.Outcome.TheVariants as outcome
use Rattle.next_steps.specs.declared.line.HistoryItem.{HistoryItem}
use Rattle.next_steps.specs.declared.line.HistoryItem.TheVariants.{Line as LineItem}
use Rattle.next_ids.specs.declared.errno.Errno.TheVariants.{Enoent}

-- ---- the setup
abbrev client : ℕ → Client
client c = record { 0 = c }

abbrev dir : ℕ → DirId
dir n = record { 0 = n }

abbrev place : ℕ → PlaceNo
place p = record { 0 = p }

abbrev stamp : ℕ → ℕ → Stamp
stamp n p = record { number = n; place = place p }

-- the moments of the clients' clocks
abbrev clock : Bool → ℕ
clock true = 50
clock false = 20

-- times of client 1 and of client 2
abbrev one : ℕ → Ts
one n = ts_at 50 n

abbrev two : ℕ → Ts
two n = ts_at 20 n

-- the names d and f
abbrev d : List ℕ
d = 100 ∷ []

abbrev f : List ℕ
f = 102 ∷ []

-- client 2 goes on into the directory that it was told of
abbrev into : Reply → Plan
into (reply.Node (Dir child)) = Calls (call.Create child f) (λ _. Ends)
into _ = Ends

abbrev plan_of : Bool → Plan
plan_of true = Calls (call.Mkdir (dir 0) d) (λ _. Calls (call.Rmdir (dir 0) d) (λ _. Ends))
plan_of false = Calls (call.Lookup (dir 0) d) into

abbrev counts : Counts
counts = record { shards = 1; stores = 1 }

abbrev setup : Setup
setup = record { counts = counts; plans = λ c. plan_of (c == 1); stops = λ c. None }

-- ---- what the places hold before each step that finds a change
abbrev note : MarkNote
note = record { owner = client 1; child = dir 64; dir = dir 0; name = d; ts = one 4 }

abbrev rec64 : Option Client → Option MarkNote → DirRec
rec64 owner mark = record {
  base = empty_attr (one 1);
  pending = [];
  back = Some (dir 0, d);
  owner = owner;
  mark = mark;
  lock = None;
}

abbrev with_shard : Service → Shard → Service
with_shard v s = record v { shard = s }

abbrev v0 : Service
v0 = opening_service

abbrev v1 : Service
v1 = with_shard v0 (set_rec v0.shard (dir 64) (rec64 (Some (client 1)) None))

abbrev v2 : Service
v2 = with_shard v1 (insert_done v1.shard (stamp 2 0) (client 1) (dir 0) d (Dir (dir 64)) (one 1) root_rec).contents

abbrev v3 : Service
v3 = with_shard v2 (set_rec v2.shard (dir 64) (rec64 None None))

abbrev v5 : Service
v5 = with_shard v3 (set_rec v3.shard (dir 64) (rec64 None (Some note)))

abbrev v7 : Service
v7 = record v5 { store = insert v5.store 448 (new_file (client 2) (dir 64) (two 7)) }

abbrev v9 : Service
v9 = with_shard v7 (remove_done v7.shard (stamp 9 0) note).contents

abbrev v10 : Service
v10 = record v9 { store = remove v9.store 448 }

abbrev v12 : Service
v12 = with_shard v10 (cut_rec v10.shard (dir 64))

abbrev v13 : Service
v13 = with_shard v12 (end_debt v12.shard (place 0) (Dir (dir 64)))

-- ---- each step: what is asked, and what it gives
abbrev gives : Answer → Service → Option Moved → Option (Served Service)
gives a v m = Some (record { answer = a; contents = v; moved = m })

serve0 : serve v0 (stamp 1 0) 50 (ask.PutDir (client 1) (place 0) (dir 0) d) ≡ gives (answer.New (Dir (dir 64))) v1 None
serve0 = refl

serve1 : serve v1 (stamp 2 0) 50 (ask.Insert (client 1) (dir 0) d (Dir (dir 64)) (one 1)) ≡ gives (answer.Done None) v2 (insert_done v1.shard (stamp 2 0) (client 1) (dir 0) d (Dir (dir 64)) (one 1) root_rec).moved
serve1 = grind (arith, nat_tests, gets, entries-empty {X = RowLock} (slice_cmp nat_cmp))

serve2 : serve v2 (stamp 3 0) 50 (ask.Settle (Dir (dir 64))) ≡ gives (answer.Done None) v3 None
serve2 = grind (arith, nat_tests, gets)

serve3 : serve v3 (stamp 4 0) 50 (ask.Read (dir 0) d) ≡ gives (answer.Found (Dir (dir 64)) (stamp 2 0)) v3 None
serve3 = grind (arith, nat_tests, gets)

no_rows : has_rows v3.shard (dir 64) ≡ false
no_rows = rw (entries-insert {X = Row} nat_list_cmp_total empty (0 ∷ d) (record { node = Dir (dir 64); stamp = stamp 2 0 }), entries-empty {X = Row} (slice_cmp nat_cmp)) refl

serve4 : serve v3 (stamp 5 0) 50 (ask.Mark (client 1) (dir 64) (dir 0) d (one 4)) ≡ gives (answer.Done None) v5 None
serve4 = grind (arith, nat_tests, gets, no_rows, entries-empty {X = RowLock} (slice_cmp nat_cmp))

serve5 : serve v5 (stamp 6 0) 20 (ask.Read (dir 0) d) ≡ gives (answer.Found (Dir (dir 64)) (stamp 2 0)) v5 None
serve5 = grind (arith, nat_tests, gets)

serve6 : serve v5 (stamp 7 64) 20 (ask.Put (client 2) (place 64) (dir 64)) ≡ gives (answer.New (File (record { 0 = 448 }))) v7 None
serve6 = refl

serve7 : serve v7 (stamp 8 0) 20 (ask.Insert (client 2) (dir 64) f (File (record { 0 = 448 })) (two 7)) ≡ gives (answer.Leaving note) v7 None
serve7 = grind (arith, nat_tests, gets)

serve8 : serve v7 (stamp 9 0) 20 (ask.Remove note) ≡ gives (answer.Done None) v9 (remove_done v7.shard (stamp 9 0) note).moved
serve8 = grind (arith, nat_tests, gets)

serve9 : serve v9 (stamp 10 64) 20 (ask.TakeBack (client 2) (File (record { 0 = 448 }))) ≡ gives (answer.Done None) v10 None
serve9 = grind (arith, nat_tests, gets)

serve10 : serve v10 (stamp 10 0) 50 (ask.Remove note) ≡ gives (answer.Already (stamp 9 0)) v10 None
serve10 = grind (arith, nat_tests, gets)

serve11 : serve v10 (stamp 11 0) 50 (ask.DropRec (dir 64)) ≡ gives (answer.Done None) v12 None
serve11 = grind (arith, nat_tests, gets)

serve12 : serve v12 (stamp 12 0) 50 (ask.Clear (place 0) (Dir (dir 64))) ≡ gives (answer.Done None) v13 None
serve12 = grind (arith, nat_tests, gets)

-- ---- the worlds, and the turns from one to the next
abbrev by : ℕ → Actor
by c = ClientActor (client c)

abbrev of : ℕ → Turn
of c = record { actor = by c; moment = clock (c == 1) }

-- the world after the step of a client that was served so
abbrev next : World → ℕ → (p number : ℕ) → Ask → Answer → Service → Option Moved → World
next w c p number a told v m =
    with_entry counts w (by c) (place p)
    (record { actor = by c; number = number; moment = clock (c == 1); ask = a; answer = told; moved = m }) v

abbrev w0 : World
w0 = opening setup

abbrev w1 : World
w1 = next w0 1 0 1 (ask.PutDir (client 1) (place 0) (dir 0) d) (answer.New (Dir (dir 64))) v1 None

abbrev w2 : World
w2 = next w1 1 0 2 (ask.Insert (client 1) (dir 0) d (Dir (dir 64)) (one 1)) (answer.Done None) v2 (insert_done v1.shard (stamp 2 0) (client 1) (dir 0) d (Dir (dir 64)) (one 1) root_rec).moved

abbrev w3 : World
w3 = next w2 1 0 3 (ask.Settle (Dir (dir 64))) (answer.Done None) v3 None

abbrev w4 : World
w4 = next w3 1 0 4 (ask.Read (dir 0) d) (answer.Found (Dir (dir 64)) (stamp 2 0)) v3 None

abbrev w5 : World
w5 = next w4 1 0 5 (ask.Mark (client 1) (dir 64) (dir 0) d (one 4)) (answer.Done None) v5 None

abbrev w6 : World
w6 = next w5 2 0 6 (ask.Read (dir 0) d) (answer.Found (Dir (dir 64)) (stamp 2 0)) v5 None

abbrev w7 : World
w7 = next w6 2 64 7 (ask.Put (client 2) (place 64) (dir 64)) (answer.New (File (record { 0 = 448 }))) v7 None

abbrev w8 : World
w8 = next w7 2 0 8 (ask.Insert (client 2) (dir 64) f (File (record { 0 = 448 })) (two 7)) (answer.Leaving note) v7 None

abbrev w9 : World
w9 = next w8 2 0 9 (ask.Remove note) (answer.Done None) v9 (remove_done v7.shard (stamp 9 0) note).moved

abbrev w10 : World
w10 = next w9 2 64 10 (ask.TakeBack (client 2) (File (record { 0 = 448 }))) (answer.Done None) v10 None

abbrev w11 : World
w11 = next w10 1 0 10 (ask.Remove note) (answer.Already (stamp 9 0)) v10 None

abbrev w12 : World
w12 = next w11 1 0 11 (ask.DropRec (dir 64)) (answer.Done None) v12 None

abbrev w13 : World
w13 = next w12 1 0 12 (ask.Clear (place 0) (Dir (dir 64))) (answer.Done None) v13 None

turn0 : turn counts w0 (of 1) ≡ w1
turn0 = ap (after_served counts w0 (by 1) (ask.PutDir (client 1) (place 0) (dir 0) d) 1 50) serve0

turn1 : turn counts w1 (of 1) ≡ w2
turn1 = ap (after_served counts w1 (by 1) (ask.Insert (client 1) (dir 0) d (Dir (dir 64)) (one 1)) 2 50) serve1

turn2 : turn counts w2 (of 1) ≡ w3
turn2 = ap (after_served counts w2 (by 1) (ask.Settle (Dir (dir 64))) 3 50) serve2

turn3 : turn counts w3 (of 1) ≡ w4
turn3 = ap (after_served counts w3 (by 1) (ask.Read (dir 0) d) 4 50) serve3

turn4 : turn counts w4 (of 1) ≡ w5
turn4 = ap (after_served counts w4 (by 1) (ask.Mark (client 1) (dir 64) (dir 0) d (one 4)) 5 50) serve4

turn5 : turn counts w5 (of 2) ≡ w6
turn5 = ap (after_served counts w5 (by 2) (ask.Read (dir 0) d) 6 20) serve5

turn6 : turn counts w6 (of 2) ≡ w7
turn6 = ap (after_served counts w6 (by 2) (ask.Put (client 2) (place 64) (dir 64)) 7 20) serve6

turn7 : turn counts w7 (of 2) ≡ w8
turn7 = ap (after_served counts w7 (by 2) (ask.Insert (client 2) (dir 64) f (File (record { 0 = 448 })) (two 7)) 8 20) serve7

turn8 : turn counts w8 (of 2) ≡ w9
turn8 = ap (after_served counts w8 (by 2) (ask.Remove note) 9 20) serve8

turn9 : turn counts w9 (of 2) ≡ w10
turn9 = ap (after_served counts w9 (by 2) (ask.TakeBack (client 2) (File (record { 0 = 448 }))) 10 20) serve9

turn10 : turn counts w10 (of 1) ≡ w11
turn10 = ap (after_served counts w10 (by 1) (ask.Remove note) 10 50) serve10

turn11 : turn counts w11 (of 1) ≡ w12
turn11 = ap (after_served counts w11 (by 1) (ask.DropRec (dir 64)) 11 50) serve11

turn12 : turn counts w12 (of 1) ≡ w13
turn12 = ap (after_served counts w12 (by 1) (ask.Clear (place 0) (Dir (dir 64))) 12 50) serve12

-- ---- the run: five turns of client 1, five of client 2, three of client 1
abbrev last_three : List Turn
last_three = of 1 ∷ of 1 ∷ of 1 ∷ []

abbrev last_eight : List Turn
last_eight = of 2 ∷ of 2 ∷ of 2 ∷ of 2 ∷ of 2 ∷ last_three

abbrev turns : List Turn
turns = of 1 ∷ of 1 ∷ of 1 ∷ of 1 ∷ of 1 ∷ last_eight

by_turn : (w v : World) (a : Turn) (more : List Turn) → turn counts w a ≡ v → run_of counts (a ∷ more) w ≡ run_of counts more v
by_turn w v a more e = ap (run_of counts more) e

first_five : played setup turns ≡ run_of counts last_eight w5
first_five =
    by_turn w0 w1 (of 1) (of 1 ∷ of 1 ∷ of 1 ∷ of 1 ∷ last_eight) turn0
    ∙ by_turn w1 w2 (of 1) (of 1 ∷ of 1 ∷ of 1 ∷ last_eight) turn1
    ∙ by_turn w2 w3 (of 1) (of 1 ∷ of 1 ∷ last_eight) turn2
    ∙ by_turn w3 w4 (of 1) (of 1 ∷ last_eight) turn3
    ∙ by_turn w4 w5 (of 1) last_eight turn4

next_five : run_of counts last_eight w5 ≡ run_of counts last_three w10
next_five =
    by_turn w5 w6 (of 2) (of 2 ∷ of 2 ∷ of 2 ∷ of 2 ∷ last_three) turn5
    ∙ by_turn w6 w7 (of 2) (of 2 ∷ of 2 ∷ of 2 ∷ last_three) turn6
    ∙ by_turn w7 w8 (of 2) (of 2 ∷ of 2 ∷ last_three) turn7
    ∙ by_turn w8 w9 (of 2) (of 2 ∷ last_three) turn8
    ∙ by_turn w9 w10 (of 2) last_three turn9

last_steps : run_of counts last_three w10 ≡ w13
last_steps = by_turn w10 w11 (of 1) (of 1 ∷ of 1 ∷ []) turn10 ∙ by_turn w11 w12 (of 1) (of 1 ∷ []) turn11 ∙ by_turn w12 w13 (of 1) [] turn12

pub the_run : played setup turns ≡ w13
the_run = first_five ∙ next_five ∙ last_steps

-- its history: client 1's rmdir moved at client 2's step 8
abbrev finished : ℕ → Call → (first at last : ℕ) → Outcome → HistoryItem
finished c call first at last told = LineItem (record { client = client c; call = call; first = first; at = Some at; last = Some last; outcome = told })

pub the_history : world_history (1 ∷ 2 ∷ []) w13 ≡
    finished 1 (call.Mkdir (dir 0) d) 0 1 2 (outcome.Moved (one 1) (Some (Dir (dir 64))))
    ∷ finished 2 (call.Lookup (dir 0) d) 5 5 5 (outcome.Reply (reply.Node (Dir (dir 64))))
    ∷ finished 1 (call.Rmdir (dir 0) d) 3 8 12 (outcome.Moved (one 4) None)
    ∷ finished 2 (call.Create (dir 64) f) 6 9 9 (outcome.Reply (reply.Refused Enoent))
    ∷ []
the_history = refl
