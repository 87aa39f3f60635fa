use Rattle.std.proofs.Common.{◌≡◌, ◌++◌, map}
use Rattle.std.specs.FinMap.{entries}
use Rattle.next_table.proofs.listing.listed.Given as goal

abbrev pub invariant-loop-name : goal.invariant-loop-name
invariant-loop-name l = l.list ++ map (λ e. (e.0, e.1.node)) l.name-iterator ≡ map (λ e. (e.0, e.1.node)) (entries l.names)
