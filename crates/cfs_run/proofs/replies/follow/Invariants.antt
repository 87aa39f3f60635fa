use Rattle.std.proofs.Common.{◌≡◌, ◌≤◌, ◌-◌, length, drop}
use Rattle.cfs_walk.specs.Stages.{course_in}
use Rattle.cfs_walk.specs.Walks.{followed}
use Rattle.cfs_run.specs.Replies.{replies_in}
use Rattle.cfs_run.proofs.replies.follow.Given as goal

abbrev pub invariant-loop-walk : goal.invariant-loop-walk
invariant-loop-walk l = record {
  within : l.at ≤ length l.calls;
  same : followed (course_in l.walk) (replies_in (drop l.at l.calls)) ≡ followed (course_in l.fn.walk) (replies_in (drop l.fn.first l.calls));
}

abbrev pub decreases-loop-walk : goal.decreases-loop-walk
decreases-loop-walk l = length l.calls - l.at
