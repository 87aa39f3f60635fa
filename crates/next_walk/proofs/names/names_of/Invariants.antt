use Rattle.std.proofs.Common.{◌≡◌, take}
use Rattle.next_walk.proofs.names.names_of.Given as goal

abbrev pub invariant-loop-component : goal.invariant-loop-component
invariant-loop-component l = l.names.items ≡ take l.component-index l.components
