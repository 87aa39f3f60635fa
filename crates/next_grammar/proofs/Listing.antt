-- A word behind `turns` that has two stars says nothing.
use Rattle.std.proofs.Common.{◌≡◌, ℕ, List, ◌∷◌, None, ap, ◌∙◌}
use Rattle.next_grammar.specs.Turns.{in_parts, turns_said}
use Rattle.next_grammar.specs.Words.{pieces}
use Rattle.next_grammar.proofs.Cutting.{some_pieces}

pub turns_said-more : (word actor times first rest : List ℕ) → pieces 42 word ≡ actor ∷ pieces 42 times → pieces 42 times ≡ first ∷ pieces 42 rest → turns_said word ≡ None
unfolding turns_said
turns_said-more word actor times first rest cut more =
    let some = some_pieces 42 rest in
    ap in_parts (cut ∙ ap (λ (ps : List (List ℕ)). actor ∷ ps) (more ∙ ap (λ (ps : List (List ℕ)). first ∷ ps) some.2))
