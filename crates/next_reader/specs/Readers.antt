-- A reading call as a phase.
use Rattle.std.specs.Prelude.{Bool, true, false}
use Rattle.next_ids.specs.declared.call.Call.{Call}
use Rattle.next_ids.specs.declared.call.Call.TheVariants as call
use Rattle.next_steps.specs.declared.answer.Answer.{Answer}
use Rattle.next_steps.specs.declared.answer.Answer.TheVariants.{Attr}
use Rattle.next_steps.specs.Answers.{are_counts}
use Rattle.next_steps.specs.Phases.{Phase, Asking as AskingPhase, Reads, Finished as FinishedPhase}
use Rattle.next_steps.specs.Phases as phase
use Rattle.next_reader.specs.declared.state.Reading.{Reading}
use Rattle.next_reader.specs.declared.state.Reading.TheVariants as reading
use Rattle.next_reader.specs.declared.state.ReaderState.{ReaderState}
use Rattle.next_reader.specs.declared.state.ReaderState.TheVariants.{Asking, ListHelping, RootLooking, StatReading, StatLooking, StatHelping, StatGetting, StatChecking, Finished}

abbrev pub call_of : Reading → Call
call_of (reading.Lookup dir name) = call.Lookup dir name
call_of (reading.List dir) = call.List dir
call_of reading.StatRoot = call.StatRoot
call_of (reading.Stat dir name) = call.Stat dir name

abbrev pub is_reading : Call → Bool
is_reading (call.Lookup dir name) = true
is_reading (call.List dir) = true
is_reading call.StatRoot = true
is_reading (call.Stat dir name) = true
is_reading c = false

abbrev pub phase_of : ReaderState → Phase
phase_of (Asking reading) = AskingPhase (call_of reading)
phase_of (ListHelping dir note first) = Reads (phase.ListHelping dir note first)
phase_of (RootLooking first) = Reads (phase.RootLooking first)
phase_of (StatReading s) = Reads (phase.StatReading s.dir s.name s.first)
phase_of (StatLooking s child) = Reads (phase.StatLooking s.dir s.name child s.first)
phase_of (StatHelping s note) = Reads (phase.StatHelping s.dir s.name note s.first)
phase_of (StatGetting f) = Reads (phase.StatGetting f.stat.dir f.stat.name f.file f.row f.stat.first)
phase_of (StatChecking f found got) =
    Reads (phase.StatChecking f.stat.dir f.stat.name f.file f.row found got f.stat.first)
phase_of (Finished done) = FinishedPhase done

-- counts in an answer come out of a fold
abbrev pub has_counts : Answer → Bool
has_counts (Attr attr) = are_counts attr
has_counts answer = true
