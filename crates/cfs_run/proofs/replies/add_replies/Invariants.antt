use Rattle.std.proofs.Common.{◌≡◌, ◌≤◌, ◌+◌, ◌++◌, length, drop}
use Rattle.std.specs.Prelude.{is_some}
use Rattle.cfs_run.specs.Replies.{replies_in, told_from, replies_of_client}
use Rattle.cfs_run.proofs.replies.add_replies.Given as goal

abbrev pub invariant-loop-i : goal.invariant-loop-i
invariant-loop-i l = record {
  within : l.at ≤ length l.done;
  left : l.table ++ told_from l.client (l.i + 1) (drop l.i l.commands) (replies_in (drop l.at l.done)) (is_some l.calls.begun) ≡ l.fn.table ++ replies_of_client (l.client, l.commands) l.calls;
}
