use Rattle.std.proofs.Common.{length}
use Rattle.next_grammar.proofs.Components.{IsRead}
use Rattle.next_grammar.proofs.paths.read_components.Given as goal

abbrev pub invariant-loop-name : goal.invariant-loop-name
invariant-loop-name l = IsRead l.text l.rest l.path

abbrev pub decreases-loop-name : goal.decreases-loop-name
decreases-loop-name l = length l.rest
