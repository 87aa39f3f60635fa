use Rattle.std.proofs.Common.{◌≡◌, ◌∙◌, ◌∷◌, ◌++◌, map, sym, ap, List, ℕ}
use Rattle.next_steps.specs.declared.contents.Row.{Row}
use Rattle.next_table.proofs.Above.{next_is_above}
use Rattle.next_table.proofs.listing.listed.Goals as goal

pub push-requires : goal.push-requires
push-requires c =
    let step : c.loop-name.name-iterator ≡ (c.in-Some.name.now, c.in-Some.row.now) ∷ c.next.new.self = c.in-Some.ensures.steps in
    let whole = ap (λ (es : List (List ℕ × Row)). c.loop-name.list ++ map (λ e. (e.0, e.1.node)) es) (sym step) ∙ c.loop-name.invariant in
    rw c.in_ok-name.ensures (next_is_above c.args.names.now c.loop-name.list (c.in-Some.name.now, c.in-Some.row.now.node) (map (λ e. (e.0, e.1.node)) c.next.new.self) whole)
