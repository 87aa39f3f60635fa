-- A writing call as a phase.
use Rattle.std.specs.Prelude.{Bool, true, false}
use Rattle.next_ids.specs.declared.call.Call.{Call}
use Rattle.next_ids.specs.declared.call.Call.TheVariants as call
use Rattle.next_steps.specs.Phases.{Phase, Asking as AskingPhase, Writes, Finished as FinishedPhase}
use Rattle.next_steps.specs.Phases as phase
use Rattle.next_writer.specs.declared.calls.Writing.{Writing}
use Rattle.next_writer.specs.declared.calls.Writing.TheVariants as writing
use Rattle.next_writer.specs.declared.state.WriterState.{WriterState}
use Rattle.next_writer.specs.declared.state.WriterState.TheVariants.{Asking, Inserting, Settling, MakeHelping, TakingBack, Dropping, Clearing, Submitting, Collecting, Finished}

abbrev pub call_of : Writing → Call
call_of (writing.Create dir name) = call.Create dir name
call_of (writing.Mkdir dir name) = call.Mkdir dir name
call_of (writing.Unlink dir name) = call.Unlink dir name
call_of (writing.Truncate file size) = call.Truncate file size
call_of (writing.Rename n) = call.Rename n.dir n.name n.to_dir n.to_name

abbrev pub is_writing : Call → Bool
is_writing (call.Create dir name) = true
is_writing (call.Mkdir dir name) = true
is_writing (call.Unlink dir name) = true
is_writing (call.Truncate file size) = true
is_writing (call.Rename dir name to_dir to_name) = true
is_writing c = false

abbrev pub phase_of : WriterState → Phase
phase_of (Asking writing) = AskingPhase (call_of writing)
phase_of (Inserting m ts) = Writes (phase.Inserting m.dir m.name m.node ts m.first)
phase_of (Settling m ts at) = Writes (phase.Settling m.dir m.name m.node ts m.first at)
phase_of (MakeHelping m note) = Writes (phase.MakeHelping m.dir m.name m.node note m.first)
phase_of (TakingBack m reply at) = Writes (phase.TakingBack m.dir m.name m.node reply at m.first)
phase_of (Dropping t) = Writes (phase.Dropping t.call t.file t.ts t.first t.at)
phase_of (Clearing t) = Writes (phase.Clearing t.call t.file t.ts t.first t.at)
phase_of (Submitting r) =
    Writes (phase.Submitting r.names.dir r.names.name r.names.to_dir r.names.to_name r.ts r.first)
phase_of (Collecting r job) =
    Writes (phase.Collecting r.names.dir r.names.name r.names.to_dir r.names.to_name job r.ts r.first)
phase_of (Finished done) = FinishedPhase done
