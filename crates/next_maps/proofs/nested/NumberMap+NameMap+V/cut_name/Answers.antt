use Rattle.std.proofs.Common.{◌≡◌, ◌==◌, true, false, sym, ◌∙◌, arith}
use Rattle.std.proofs.lemmas.Bool.Decides.{nat_tests}
use Rattle.std.specs.FinMap.{len}
use Rattle.next_maps.proofs.Inner.{without_name-left, without_name-last, without_name-none, no_name}
use Rattle.next_maps.proofs.nested.NumberMap+NameMap+V.cut_name.Goals as goal

pub returns-in_err-names-clause-map : goal.returns-in_err-names-clause-map
returns-in_err-names-clause-map g c =
    c.get_mut.follows.holds-at-none ∙ without_name-none c.args.self.now c.args.key c.args.name.now (sym c.in_err-names.ensures.value)

pub returns-in_err-names-clause-before : goal.returns-in_err-names-clause-before
returns-in_err-names-clause-before g c =
    c.from_residual.ensures ∙ sym (no_name c.args.self.now c.args.key c.args.name.now (sym c.in_err-names.ensures.value))

pub returns-then-len-eq0-clause-map : goal.returns-then-len-eq0-clause-map
returns-then-len-eq0-clause-map g c =
    let none : (len c.cut-before.new.self == 0) ≡ true = grind (arith, nat_tests, c.len.ensures, c.if-len-eq0.true) in
    c.cut.ensures.map
    ∙ without_name-last c.args.self.now c.args.key c.args.name.now _ _ c.cut-before.new.self c.in_ok-names.ensures.value (rw c.in_ok-names.was at (c.get_mut.follows.holds c.cut-before.new.self)) c.cut-before.ensures.map none

pub returns-else-len-eq0-clause-map : goal.returns-else-len-eq0-clause-map
returns-else-len-eq0-clause-map g c =
    let some : (len c.cut-before.new.self == 0) ≡ false = grind (arith, nat_tests, c.len.ensures, c.if-len-eq0.false) in
    without_name-left c.args.self.now c.args.key c.args.name.now _ _ c.cut-before.new.self c.in_ok-names.ensures.value (rw c.in_ok-names.was at (c.get_mut.follows.holds c.cut-before.new.self)) c.cut-before.ensures.map some
