use Rattle.std.proofs.Common.{◌≡◌, ◌++◌, drop}
use Rattle.cfs_run.specs.Replies.{replies_of}
use Rattle.cfs_run.proofs.replies.replies_of.Given as goal

abbrev pub invariant-loop-i : goal.invariant-loop-i
invariant-loop-i l = l.table ++ replies_of (drop l.i l.lists) (drop l.i l.calls) ≡ replies_of l.lists l.calls
