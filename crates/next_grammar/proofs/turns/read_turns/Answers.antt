use Rattle.std.proofs.Common.{◌≡◌, ◌∷◌, true, is_some, sym, ◌∙◌}
use Rattle.next_grammar.specs.Words.{pieces}
use Rattle.next_grammar.proofs.Found.{some_found}
use Rattle.next_grammar.proofs.Listing.{turns_said-more}
use Rattle.next_grammar.proofs.turns.read_turns.Goals as goal

-- a second star
pub returns-then-is_some : goal.returns-then-is_some
returns-then-is_some c =
    let some : is_some c.cut_at-2.result ≡ true = sym c.is_some.ensures ∙ c.if-is_some.true in
    let parts = some_found c.cut_at-2.result (λ parts. pieces 42 c.in-Some.times.now ≡ parts.0.now ∷ pieces 42 parts.1.now) some c.cut_at-2.ensures.found in
    sym (turns_said-more c.args.word.now c.in-Some.actor.now c.in-Some.times.now parts.0.0.now parts.0.1.now c.in-Some.ensures.found parts.1)
