use Rattle.std.proofs.Common.{◌≡◌, reverse, take}
use Rattle.cfs_rules.specs.Histories.{move_from}
use Rattle.cfs_history.proofs.index.Index.move_from.Given as goal

abbrev pub invariant-loop-position : goal.invariant-loop-position
invariant-loop-position l = l.found ≡ move_from l.client l.first (reverse (take l.position l.self.run.now))
