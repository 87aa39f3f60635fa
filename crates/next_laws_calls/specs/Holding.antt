-- What holds of the places, of each client and of what it has seen, in every world of a plain run.
use Rattle.std.specs.Prelude.{◌≡◌, ℕ, ◌%◌, List, [], ◌∷◌, map, true, Option, Some, None}
use Rattle.next_ids.specs.declared.ids.At.{At}
use Rattle.next_ids.specs.declared.ids.At.TheVariants.{Step}
use Rattle.next_ids.specs.declared.ids.Node.{Node}
use Rattle.next_ids.specs.declared.ids.Node.TheVariants.{Dir, File}
use Rattle.next_ids.specs.declared.call.Call.TheVariants.{Unlink}
use Rattle.next_ids.specs.declared.call.Reply.{Reply}
use Rattle.next_ids.specs.declared.call.Reply.TheVariants.{Refused, Busy}
use Rattle.next_steps.specs.Phases.{Phase, Asking, Reads, Writes, Removes, Finished, ReaderPhase, ListHelping, RootLooking, StatReading, StatLooking, StatHelping, StatGetting, StatChecking, WriterPhase, Inserting, Settling, MakeHelping, TakingBack, Dropping, Clearing, Submitting, Collecting, RemoverPhase, RowReading, Marking, MarkHelping, Removing, RecDropping, RecClearing}
use Rattle.next_steps.specs.Removers.{note_of}
use Rattle.next_steps.specs.Writers.{dir_of}
use Rattle.next_rules.specs.Actors.{client_of}
use Rattle.next_rules.specs.Setups.{nodes_of}
use Rattle.next_laws_stages.specs.Needs.{Need, Known, MayName, HasPut, Noted, Removing as RemovingNeed, Owes, Cleans}
use Rattle.next_laws_calls.specs.Plain.{is_plain}

-- ---- what a client needs in a phase
abbrev pub reading_needs : ReaderPhase → List (Node × Need)
reading_needs (ListHelping dir note first) = (Dir dir, Noted note) ∷ []
reading_needs (RootLooking first) = []
reading_needs (StatReading dir name first) = (Dir dir, Known) ∷ []
reading_needs (StatLooking dir name child first) = (Dir dir, Known) ∷ (Dir child, Known) ∷ []
reading_needs (StatHelping dir name note first) = (Dir dir, Known) ∷ (Dir note.child, Noted note) ∷ []
reading_needs (StatGetting dir name file row first) = (Dir dir, Known) ∷ (File file, Known) ∷ []
reading_needs (StatChecking dir name file row found got first) = (Dir dir, Known) ∷ []

abbrev pub writing_needs : WriterPhase → List (Node × Need)
writing_needs (Inserting dir name node ts first) = (Dir dir, Known) ∷ (node, MayName ts dir name) ∷ []
writing_needs (Settling dir name node ts first at) = (node, Known) ∷ []
writing_needs (MakeHelping dir name node note first) = (Dir dir, Noted note) ∷ (node, HasPut) ∷ []
writing_needs (TakingBack dir name node reply at first) = (node, HasPut) ∷ []
writing_needs (Dropping call file ts first at) = (File file, Owes ((dir_of call).0 % 64) at) ∷ []
writing_needs (Clearing call file ts first at) = (File file, Cleans ((dir_of call).0 % 64) at) ∷ []
writing_needs (Submitting dir name to_dir to_name ts first) = []
writing_needs (Collecting dir name to_dir to_name job ts first) = []

abbrev pub removing_needs : ℕ → RemoverPhase → List (Node × Need)
removing_needs i (RowReading dir name ts first) = (Dir dir, Known) ∷ []
removing_needs i (Marking dir name child ts first) = (Dir dir, Known) ∷ (Dir child, Known) ∷ []
removing_needs i (MarkHelping dir name note ts first) = (Dir dir, Known) ∷ (Dir note.child, Noted note) ∷ []
removing_needs i (Removing dir name child ts first) =
    (Dir child, RemovingNeed (note_of (client_of i) dir name child ts)) ∷ []
removing_needs i (RecDropping dir name child ts first at) = (Dir child, Owes (dir.0 % 64) at) ∷ []
removing_needs i (RecClearing dir name child ts first at) = (Dir child, Cleans (dir.0 % 64) at) ∷ []

abbrev pub needs : ℕ → Option Phase → List (Node × Need)
needs i None = []
needs i (Some (Asking call)) = map (λ node. (node, Known)) (nodes_of call)
needs i (Some (Reads phase)) = reading_needs phase
needs i (Some (Writes phase)) = writing_needs phase
needs i (Some (Removes phase)) = removing_needs i phase
needs i (Some (Finished done)) = []

-- ---- phases of calls that are no renames
-- a reply that stands before a node is taken back holds before a step or after one, and refuses
abbrev pub IsRefusal : At → Reply → Type 0
IsRefusal (Step s) reply = ⊥
IsRefusal at (Refused errno) = Unit {0}
IsRefusal at (Busy job) = Unit {0}
IsRefusal at reply = ⊥

abbrev pub IsPlainWriting : WriterPhase → Type 0
IsPlainWriting (TakingBack dir name node reply at first) = IsRefusal at reply
IsPlainWriting (Dropping (Unlink dir name) file ts first at) = Unit {0}
IsPlainWriting (Dropping call file ts first at) = ⊥
IsPlainWriting (Clearing (Unlink dir name) file ts first at) = Unit {0}
IsPlainWriting (Clearing call file ts first at) = ⊥
IsPlainWriting (Submitting dir name to_dir to_name ts first) = ⊥
IsPlainWriting (Collecting dir name to_dir to_name job ts first) = ⊥
IsPlainWriting phase = Unit {0}

abbrev pub IsPlainIn : Option Phase → Type 0
IsPlainIn (Some (Asking call)) = is_plain call ≡ true
IsPlainIn (Some (Writes phase)) = IsPlainWriting phase
IsPlainIn (Some (Finished done)) = ⊥
IsPlainIn current = Unit {0}
