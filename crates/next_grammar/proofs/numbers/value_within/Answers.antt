use Rattle.std.proofs.Common.{◌+◌, ◌<◌, arith}
use Rattle.std.proofs.lemmas.Bool.Decides.{nat_tests}
use Rattle.next_grammar.specs.Numbers.{value}
use Rattle.next_grammar.proofs.Values.{value-take, value-more}
use Rattle.next_grammar.proofs.numbers.value_within.Goals as goal

-- the digits read already say too much
pub returns-then-number-most : goal.returns-then-number-most
returns-then-number-most c =
    let low = value-take c.args.word.now (c.loop-b.b-index + 1) in
    let more = value-more c.args.word.now c.loop-b.b-index c.loop-b-test.true in
    let over : c.args.most < value c.args.word.now = omega (arith, low, more) in
    grind (arith, nat_tests)
