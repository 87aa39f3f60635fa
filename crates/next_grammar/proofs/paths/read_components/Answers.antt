use Rattle.std.proofs.Common.{◌≡◌, ◌&&◌, ◌++◌, ◌∷◌, [], true, false, nat_lt, length, Some, sym, ap, ◌∙◌}
use Rattle.std.proofs.lemmas.Bool.{cond-true}
use Rattle.next_grammar.specs.Paths.{is_component}
use Rattle.next_grammar.proofs.Components.{all_read, one_bad}
use Rattle.next_grammar.specs.Words.{pieces}
use Rattle.next_grammar.proofs.paths.read_components.Goals as goal

pub returns-then-not-branch : goal.returns-then-not-branch
returns-then-not-branch c =
    let bad : (is_component c.in-Some.name.now && nat_lt (length c.loop-name.path) 64) ≡ false = sym c.in_ok-add_component.ensures.fits ∙ c.if-not-branch.true in
    sym (one_bad c.args.text.now c.loop-name.rest.now c.loop-name.path c.loop-name.invariant c.in-Some.name.now (pieces 47 c.in-Some.more.now) c.in-Some.ensures.found bad)

pub returns-then-branch : goal.returns-then-branch
returns-then-branch c =
    let fits : (is_component c.loop-name.rest.now && nat_lt (length c.loop-name.path) 64) ≡ true = sym c.in_ok-add_component-2.ensures.fits ∙ c.if-branch.true in
    let is : c.add_component-2.new.path ≡ c.loop-name.path ++ c.loop-name.rest.now ∷ [] = c.in_ok-add_component-2.ensures.path ∙ cond-true _ _ _ c.if-branch.true in
    ap Some is ∙ sym (all_read c.args.text.now c.loop-name.rest.now c.loop-name.path c.loop-name.invariant c.in_default.ensures.none fits)

pub returns-else-branch : goal.returns-else-branch
returns-else-branch c =
    let bad : (is_component c.loop-name.rest.now && nat_lt (length c.loop-name.path) 64) ≡ false = sym c.in_ok-add_component-2.ensures.fits ∙ c.if-branch.false in
    sym (one_bad c.args.text.now c.loop-name.rest.now c.loop-name.path c.loop-name.invariant c.loop-name.rest.now [] c.in_default.ensures.none bad)
