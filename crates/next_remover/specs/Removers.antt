-- A rmdir as a phase.
use Rattle.std.specs.Prelude.{Bool, true, false}
use Rattle.next_ids.specs.declared.call.Call.{Call}
use Rattle.next_ids.specs.declared.call.Call.TheVariants.{Rmdir}
use Rattle.next_steps.specs.Phases.{Phase, Asking as AskingPhase, Removes, Finished as FinishedPhase}
use Rattle.next_steps.specs.Phases as phase
use Rattle.next_remover.specs.declared.state.RemoverState.{RemoverState}
use Rattle.next_remover.specs.declared.state.RemoverState.TheVariants.{Asking, RowReading, Marking, MarkHelping, Removing, RecDropping, RecClearing, Finished}

abbrev pub is_removing : Call → Bool
is_removing (Rmdir dir name) = true
is_removing call = false

abbrev pub phase_of : RemoverState → Phase
phase_of (Asking dir name) = AskingPhase (Rmdir dir name)
phase_of (RowReading r ts) = Removes (phase.RowReading r.dir r.name ts r.first)
phase_of (Marking r child ts) = Removes (phase.Marking r.dir r.name child ts r.first)
phase_of (MarkHelping r note ts) = Removes (phase.MarkHelping r.dir r.name note ts r.first)
phase_of (Removing r child ts) = Removes (phase.Removing r.dir r.name child ts r.first)
phase_of (RecDropping c) = Removes (phase.RecDropping c.removal.dir c.removal.name c.child c.ts c.removal.first c.at)
phase_of (RecClearing c) = Removes (phase.RecClearing c.removal.dir c.removal.name c.child c.ts c.removal.first c.at)
phase_of (Finished done) = FinishedPhase done
