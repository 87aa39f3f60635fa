use Rattle.std.proofs.Common.{◌≡◌, reverse, take}
use Rattle.next_rules.specs.Histories.{move_from}
use Rattle.next_history.proofs.index.Index.move_from.Given as goal

abbrev pub invariant-loop-position : goal.invariant-loop-position
invariant-loop-position l = l.found ≡ move_from l.client l.call l.first (reverse (take l.position l.self.run.now))
