-- A writing call as a phase.
use Rattle.std.specs.Prelude.{Bool, true, false}
use Rattle.cfs_ids.specs.declared.call.Call.{Call}
use Rattle.cfs_ids.specs.declared.call.Call.TheVariants.{Create, Mkdir}
use Rattle.cfs_steps.specs.Phases.{Phase, Asking as AskingPhase, Inserting as InsertingPhase, Settling as SettlingPhase, TakingBack as TakingBackPhase, Finished as FinishedPhase}
use Rattle.cfs_writer.specs.declared.state.WriterState.{WriterState}
use Rattle.cfs_writer.specs.declared.state.WriterState.TheVariants.{Asking, Inserting, Settling, TakingBack, Finished}

abbrev pub phase_of : WriterState → Phase
phase_of (Asking call) = AskingPhase call
phase_of (Inserting c ts) = InsertingPhase c.dir c.name c.node ts c.first
phase_of (Settling c ts at) = SettlingPhase c.dir c.name c.node ts c.first at
phase_of (TakingBack c errno at) = TakingBackPhase c.dir c.name c.node errno c.first at
phase_of (Finished done) = FinishedPhase done

abbrev pub is_writing : Call → Bool
is_writing (Create dir name) = true
is_writing (Mkdir dir name) = true
is_writing call = false

abbrev pub writes : WriterState → Bool
writes (Asking call) = is_writing call
writes state = true
