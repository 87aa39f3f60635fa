-- The ledger of calls that are no renames: what a client's call has come to, by its phase, and by the debt that a removal
-- of its mark leaves.
use Rattle.std.specs.Prelude.{Option, Some, None}
use Rattle.std.specs.FinMap.{get}
use Rattle.next_ids.specs.declared.ids.Stamp.{Stamp}
use Rattle.next_ids.specs.declared.ids.Node.TheVariants.{Dir}
use Rattle.next_ids.specs.declared.time.Ts.{Ts}
use Rattle.next_ids.specs.declared.call.Call.{Call}
use Rattle.next_ids.specs.declared.call.Call.TheVariants.{Rmdir, Rename}
use Rattle.next_steps.specs.declared.contents.Debt.{Debt}
use Rattle.next_steps.specs.Asks.{shard_of}
use Rattle.next_steps.specs.Phases.{Phase, Asking, Reads, Writes, Removes, Finished, WriterPhase, Inserting, Settling, MakeHelping, TakingBack, Dropping, Clearing, Submitting, Collecting, RemoverPhase, RowReading, Marking, MarkHelping, Removing, RecDropping, RecClearing}
use Rattle.next_steps.specs.Readers.{begun_reading}
use Rattle.next_steps.specs.Writers.{maker}
use Rattle.next_rules.specs.Contents.{Shard, debt_key}
use Rattle.next_laws_told.specs.Claims.{Claim, Idle, Open, Said, Made}
use Rattle.next_laws_told.specs.Ledgers.{Ledger}

abbrev pub reading_claim : Call × Stamp → Claim
reading_claim begun = Open begun.0 begun.1

abbrev pub writing_claim : WriterPhase → Claim
writing_claim (Inserting dir name node ts first) = Open (maker dir name node) first
writing_claim (Settling dir name node ts first at) = Made (maker dir name node) first at ts (Some node)
writing_claim (MakeHelping dir name node note first) = Open (maker dir name node) first
writing_claim (TakingBack dir name node reply at first) = Said (maker dir name node) first at reply
writing_claim (Dropping call file ts first at) = Made call first at ts None
writing_claim (Clearing call file ts first at) = Made call first at ts None
writing_claim (Submitting dir name to_dir to_name ts first) = Open (Rename dir name to_dir to_name) first
writing_claim (Collecting dir name to_dir to_name job ts first) = Open (Rename dir name to_dir to_name) first

-- the owner of a mark, by the debt that whoever removed it left
abbrev pub marked_claim : Option Debt → Call → (first : Stamp) → Ts → Claim
marked_claim None call first ts = Open call first
marked_claim (Some debt) call first ts = Made call first debt.stamp ts None

abbrev pub removing_claim : Shard → RemoverPhase → Claim
removing_claim shard (RowReading dir name ts first) = Open (Rmdir dir name) first
removing_claim shard (Marking dir name child ts first) = Open (Rmdir dir name) first
removing_claim shard (MarkHelping dir name note ts first) = Open (Rmdir dir name) first
removing_claim shard (Removing dir name child ts first) =
    marked_claim (get shard.debts (debt_key (shard_of dir) (Dir child))) (Rmdir dir name) first ts
removing_claim shard (RecDropping dir name child ts first at) = Made (Rmdir dir name) first at ts None
removing_claim shard (RecClearing dir name child ts first at) = Made (Rmdir dir name) first at ts None

abbrev pub claim_of : Shard → Option Phase → Claim
claim_of shard None = Idle
claim_of shard (Some (Asking call)) = Idle
claim_of shard (Some (Reads phase)) = reading_claim (begun_reading phase)
claim_of shard (Some (Writes phase)) = writing_claim phase
claim_of shard (Some (Removes phase)) = removing_claim shard phase
claim_of shard (Some (Finished done)) = Idle

abbrev pub ledger : Ledger
ledger w c = claim_of w.service.shard (w.actors.clients c).current
