use Rattle.std.proofs.Common.{reverse, take}
use Rattle.next_history.specs.Indexes.{Follows}
use Rattle.next_history.proofs.IndexLemmas.{stamp_cmp}
use Rattle.next_history.proofs.index.positions_of.Given as goal

abbrev pub invariant-loop-position : goal.invariant-loop-position
invariant-loop-position l = Follows stamp_cmp l.positions (reverse (take l.position l.run))
