use Rattle.std.proofs.Common.{◌≡◌, ◌+◌, ◌==◌, position, Some, sym}
use Rattle.std.proofs.lemmas.List.{take_rest}
use Rattle.next_grammar.proofs.Cutting.{pieces_some}
use Rattle.next_grammar.proofs.words.cut_at.Goals as goal

pub returns-clause-found : goal.returns-clause-found
returns-clause-found c =
    let at : position (λ b. b == c.args.byte) c.args.text.now ≡ Some c.in_ok-at.at = sym c.in_ok-at.ensures in
    rw (take_rest c.args.text.now (c.in_ok-at.at + 1)) (pieces_some c.args.byte c.args.text.now c.in_ok-at.at at).1
