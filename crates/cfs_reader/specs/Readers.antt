-- A reading call as a phase.
use Rattle.std.specs.Prelude.{Bool, true, false}
use Rattle.cfs_ids.specs.declared.call.Call.{Call}
use Rattle.cfs_ids.specs.declared.call.Call.TheVariants.{Lookup, List}
use Rattle.cfs_steps.specs.Phases.{Phase, Asking as AskingPhase, Finished as FinishedPhase}
use Rattle.cfs_reader.specs.declared.state.ReaderState.{ReaderState}
use Rattle.cfs_reader.specs.declared.state.ReaderState.TheVariants.{Asking, Finished}

abbrev pub phase_of : ReaderState → Phase
phase_of (Asking call) = AskingPhase call
phase_of (Finished done) = FinishedPhase done

abbrev pub is_reading : Call → Bool
is_reading (Lookup dir name) = true
is_reading (List dir) = true
is_reading call = false

abbrev pub reads : ReaderState → Bool
reads (Asking call) = is_reading call
reads (Finished done) = true
