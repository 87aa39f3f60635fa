use Rattle.std.proofs.Common.{◌≡◌, ◌++◌, length}
use Rattle.std.specs.Option.{option_map}
use Rattle.next_grammar.specs.Words.{words}
use Rattle.next_script.specs.Scripts.{all_listed}
use Rattle.next_script.proofs.listed.listed_in.Given as goal

abbrev pub invariant-loop-word : goal.invariant-loop-word
invariant-loop-word l = all_listed l.reading (words l.text) ≡ option_map (λ more. l.listed.items ++ more) (all_listed l.reading (words l.rest))

abbrev pub decreases-loop-word : goal.decreases-loop-word
decreases-loop-word l = length l.rest
