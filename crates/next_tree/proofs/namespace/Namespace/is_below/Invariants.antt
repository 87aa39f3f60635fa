use Rattle.std.proofs.Common.{◌≡◌, ◌-◌}
use Rattle.std.specs.FinMap.{len}
use Rattle.next_ids.specs.Namespace.{leads, is_below}
use Rattle.next_tree.proofs.namespace.Namespace.is_below.Given as goal

abbrev pub invariant-loop : goal.invariant-loop
invariant-loop l = is_below l.self l.from.0 l.fn.to.0 ≡ leads (len l.self.dirs - l.counter) l.self l.from.0 l.at.0
