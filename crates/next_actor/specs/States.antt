-- The progress of a client whose last entry may not yet be worked in.
use Rattle.std.specs.Prelude.{ℕ, List, [], Bool, true, false, not, is_none, ◌==◌, ◌&&◌, ◌||◌, Option, Some, None}
use Rattle.next_ids.specs.declared.ids.Client.{Client}
use Rattle.next_ids.specs.declared.ids.JobNo.{JobNo}
use Rattle.next_ids.specs.declared.counts.Counts.{Counts}
use Rattle.next_ids.specs.declared.call.Reply.{Reply}
use Rattle.next_steps.specs.declared.call_done.CallDone.{CallDone}
use Rattle.next_steps.specs.declared.entry.Entry.{Entry}
use Rattle.next_steps.specs.Answers.{lists}
use Rattle.next_steps.specs.Calls.{heard, is_going}
use Rattle.next_steps.specs.Counts.{puts_in}
use Rattle.next_steps.specs.Phases.{Phase, Asking}
use Rattle.next_rules.specs.Actors.{Plan, Progress, Doing, Stops, Leaves, Goes, first_of, rest_of, put_index, hears}
use Rattle.next_writer.specs.Writers.{is_writing}
use Rattle.next_writer.specs.Jobs.{job_of}
use Rattle.next_calls.specs.declared.call_machine.CallMachine.{CallMachine}
use Rattle.next_calls.specs.CallMachines.{client_in, index_in, phase_in}
use Rattle.next_actor.specs.declared.kept.KeptEntry.{KeptEntry}
use Rattle.next_actor.specs.declared.program.Program.{Program}
use Rattle.next_actor.specs.Programs.{waits, is_over}
use Rattle.next_actor.specs.Replies.{reply_at}

-- the entry is heard
abbrev pub with_kept : Option KeptEntry → Progress → Progress
with_kept None p = p
with_kept (Some kept) p = hears p kept.place kept.entry

-- the first call of the plan is current, also before its machine is made
abbrev pub current_in : Option CallMachine → Plan → Option Phase
current_in None plan = first_of plan
current_in (Some machine) plan = Some (phase_in machine)

abbrev pub worked_in : Option CallMachine → Plan → (stop : Option ℕ) → (steps : ℕ) → (ended : Bool) → (last puts : ℕ)
    → List CallDone → Progress
worked_in current plan stop steps ended last puts done = record {
  current = current_in current plan;
  rest = rest_of plan;
  stop = stop;
  steps = steps;
  ended = ended;
  last = last;
  puts = puts;
  done = done;
}

-- a call that has yet to put its node has the index of that put
abbrev pub has_index : Counts → Client → (puts : ℕ) → Phase → (index : ℕ) → Bool
has_index counts client puts (Asking call) index =
    not (is_writing call) || (index == put_index counts client puts (Asking call))
has_index counts client puts phase index = true

-- the call has made a step
abbrev pub is_begun : Phase → Bool
is_begun (Asking call) = false
is_begun phase = true

-- the current call is the client's, and puts its node where the client's next put goes
abbrev pub is_own : Counts → Client → (puts : ℕ) → Option CallMachine → Bool
is_own counts client puts None = true
is_own counts client puts (Some machine) =
    ((client_in machine).0 == client.0) && has_index counts client puts (phase_in machine) (index_in machine)

-- the entry has an answer that the tables list for its ask, and takes the call on
abbrev pub takes_on : KeptEntry → Phase → Bool
takes_on kept phase = lists kept.entry.ask kept.entry.answer && is_begun (heard phase kept.place kept.entry)

-- a call that has ended is current only while its last entry is kept, and else a kept entry takes the current call on
abbrev pub fits : Option KeptEntry → Option CallMachine → Bool
fits None None = true
fits None (Some machine) = is_going (phase_in machine)
fits (Some kept) None = false
fits (Some kept) (Some machine) = not (is_going (phase_in machine)) || takes_on kept (phase_in machine)

-- the program waits for the reply to the current call
abbrev pub is_awaited : Option CallMachine → Program → Bool
is_awaited None program = true
is_awaited (Some machine) program = waits program

-- the last number is that of the kept entry
abbrev pub is_last : Option KeptEntry → ℕ → Bool
is_last None last = true
is_last (Some kept) last = last == kept.entry.number

-- the reply that the kept entry brings
abbrev pub reply_kept : Option KeptEntry → Option CallMachine → List Reply
reply_kept None current = []
reply_kept (Some kept) None = []
reply_kept (Some kept) (Some machine) = reply_at (heard (phase_in machine) kept.place kept.entry)

-- how many nodes the kept entry puts, and how many steps it is
abbrev pub kept_puts : Option KeptEntry → ℕ
kept_puts None = 0
kept_puts (Some kept) = puts_in kept.entry.ask

abbrev pub kept_steps : Option KeptEntry → ℕ
kept_steps None = 0
kept_steps (Some kept) = 1

-- a call is on its way, or nothing is left to do
abbrev pub is_ready : Option CallMachine → Program → Bool
is_ready None program = is_over program
is_ready (Some machine) program = true

-- a client that has stopped or ended keeps no entry, and has a call on its way or nothing left to do
abbrev pub rests : (ended : Bool) → Option KeptEntry → Option CallMachine → Program → Bool
rests true kept current program = is_none kept && is_ready current program
rests false kept current program = true

-- a client that is due to stop makes no more steps of its calls
abbrev pub may_keep : Option KeptEntry → (due : Bool) → Bool
may_keep None due = true
may_keep (Some kept) due = not due

-- ---- what the next step is
-- a step of a call has an answer that the tables list
abbrev pub is_listed : Entry → Doing → Bool
is_listed entry (Goes phase) = lists entry.ask entry.answer
is_listed entry doing = true

-- it is one of a call that has still steps to make
abbrev pub is_going_on : Doing → Bool
is_going_on (Goes phase) = is_going phase
is_going_on doing = true

-- it stops or ends the client
abbrev pub is_final : Doing → Bool
is_final Stops = true
is_final Leaves = true
is_final doing = false

-- the job that the current call has submitted and not collected
abbrev pub job_in : Option Phase → Option JobNo
job_in None = None
job_in (Some phase) = job_of phase
