-- The progress of a client whose last entry may not yet be worked in.
use Rattle.std.specs.Prelude.{ℕ, List, Bool, true, false, not, is_none, ◌==◌, ◌&&◌, ◌||◌, Option, Some, None}
use Rattle.cfs_ids.specs.declared.ids.Client.{Client}
use Rattle.cfs_steps.specs.declared.answer.Answer.{Answer}
use Rattle.cfs_steps.specs.declared.call_done.CallDone.{CallDone}
use Rattle.cfs_steps.specs.Phases.{Phase, Asking, answers, is_going}
use Rattle.cfs_rules.specs.Worlds.{Plan, Progress, Counts, first_of, rest_of, put_index, puts_in, hears}
use Rattle.cfs_writer.specs.Writers.{is_writing}
use Rattle.cfs_actor.specs.declared.kept.KeptEntry.{KeptEntry}
use Rattle.cfs_actor.specs.declared.call_machine.CallMachine.{CallMachine}
use Rattle.cfs_actor.specs.declared.program.Program.{Program}
use Rattle.cfs_actor.specs.CallMachines.{client_in, index_in, phase_in}
use Rattle.cfs_actor.specs.Programs.{waits, is_over}

-- the entry is heard
abbrev pub with_kept : Option KeptEntry → Progress → Progress
with_kept None p = p
with_kept (Some kept) p = hears p kept.place kept.entry

-- the first call of the plan is current, also before its machine is made
abbrev pub current_in : Option CallMachine → Plan → Option Phase
current_in None plan = first_of plan
current_in (Some machine) plan = Some (phase_in machine)

abbrev pub worked_in : Option CallMachine → Plan → Bool → (last puts : ℕ) → List CallDone → Progress
worked_in current plan ended last puts done = record { current = current_in current plan; rest = rest_of plan; ended = ended; last = last; puts = puts; done = done }

-- this many shards and stores
abbrev pub counts : (shards stores : ℕ) → Counts
counts shards stores = record { shards = shards; stores = stores }

-- a call that has yet to put its node has the index of that put
abbrev pub has_index : Counts → Client → (puts : ℕ) → Phase → (index : ℕ) → Bool
has_index places client puts (Asking call) index = not (is_writing call) || (index == put_index places client puts (Asking call))
has_index places client puts phase index = true

-- the call has made a step
abbrev pub is_begun : Phase → Bool
is_begun (Asking call) = false
is_begun phase = true

-- the current call is the client's, and puts its node where the client's next put goes
abbrev pub is_own : Counts → Client → (puts : ℕ) → Option CallMachine → Bool
is_own places client puts None = true
is_own places client puts (Some machine) = ((client_in machine).0 == client.0) && has_index places client puts (phase_in machine) (index_in machine)

-- a call that has ended is current only while its last entry is kept, and a kept entry has an answer for the current call
abbrev pub fits : Option KeptEntry → Option CallMachine → Bool
fits None None = true
fits None (Some machine) = is_going (phase_in machine)
fits (Some kept) None = false
fits (Some kept) (Some machine) = not (is_going (phase_in machine)) || answers (phase_in machine) kept.entry.answer

-- the program waits for the reply to the current call
abbrev pub is_awaited : Option CallMachine → Program → Bool
is_awaited None program = true
is_awaited (Some machine) program = waits program

-- the last number is that of the kept entry
abbrev pub is_last : Option KeptEntry → ℕ → Bool
is_last None last = true
is_last (Some kept) last = last == kept.entry.number

-- how many nodes the kept entry puts
abbrev pub kept_puts : Option KeptEntry → ℕ
kept_puts None = 0
kept_puts (Some kept) = puts_in kept.entry.ask

-- whether a table lists the answer for what a client with this current call asks
abbrev pub answers_now : Option Phase → Answer → Bool
answers_now None answer = true
answers_now (Some phase) answer = answers phase answer

-- the current call has still steps to make
abbrev pub is_going_now : Option Phase → Bool
is_going_now None = true
is_going_now (Some phase) = is_going phase

-- a call is on its way, or nothing is left to do
abbrev pub is_ready : Option CallMachine → Program → Bool
is_ready None program = is_over program
is_ready (Some machine) program = true

-- a client that has ended keeps no entry, and has nothing left to do
abbrev pub rests : Bool → Option KeptEntry → Option CallMachine → Program → Bool
rests true kept current program = is_none kept && is_ready current program
rests false kept current program = true
