use Rattle.std.proofs.Common.{◌≡◌, ◌≤◌, take}
use Rattle.next_grammar.specs.Numbers.{value}
use Rattle.next_grammar.proofs.numbers.value_within.Given as goal

abbrev pub invariant-loop-b : goal.invariant-loop-b
invariant-loop-b l = record {
  so_far : l.number ≡ value (take l.b-index l.word);
  low : l.number ≤ l.most;
}
