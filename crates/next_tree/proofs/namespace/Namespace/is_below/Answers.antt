use Rattle.std.proofs.Common.{◌≡◌, ◌≢◌, ◌-◌, length, Some, None, sym, ◌∙◌, ap, subst, arith}
use Rattle.std.proofs.lemmas.Bool.Decides.{nat_tests}
use Rattle.std.specs.FinMap.{len, entries, len-entries}
use Rattle.next_ids.specs.Namespace.{Namespace, leads}
use Rattle.next_tree.specs.Upward.{parent_among}
use Rattle.next_tree.proofs.Parents.{walk-step, walk-ends}
use Rattle.next_tree.proofs.namespace.Namespace.is_below.Goals as goal

pub loop-init : goal.loop-init
loop-init c =
    let n = c.args.self.now in
    let whole : len n.dirs - 0 ≡ length (entries n.dirs) = omega (arith, len-entries n.dirs) in
    ap (λ k. leads k n c.args.from.0 c.args.to.0) (sym whole)

pub returns-in-None : goal.returns-in-None
returns-in-None c =
    let n = c.args.self.now in
    let apart : c.loop.at.0 ≢ c.args.from.0 = grind (arith, nat_tests, c.eq.ensures) in
    let none = subst (λ (x : Namespace). parent_among c.loop.at (entries x.dirs) ≡ None) c.self.view_is (sym c.in-None.ensures) in
    sym (c.loop.invariant ∙ walk-ends n (len n.dirs - c.loop.counter) c.args.from c.loop.at apart none)

pub loop-preserved : goal.loop-preserved
loop-preserved c =
    let n = c.args.self.now in
    let apart : c.loop.at.0 ≢ c.args.from.0 = grind (arith, nat_tests, c.eq.ensures) in
    let some = subst (λ (x : Namespace). parent_among c.loop.at (entries x.dirs) ≡ Some c.in-Some.parent) c.self.view_is (sym c.in-Some.ensures) in
    let count = c.len-end.ensures ∙ ap (λ (x : Namespace). len x.dirs) c.self.view_is in
    c.loop.invariant ∙ walk-step n c.requires (len n.dirs) c.loop.counter c.args.from c.loop.at c.in-Some.parent (omega (arith, count)) apart some
