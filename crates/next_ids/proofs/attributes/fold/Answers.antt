use Rattle.std.proofs.Common.{get_or, pos, w32, rules, sym, ◌∙◌, FitsSigned, arith}
use Rattle.std.proofs.lemmas.Int.{ints}
use Rattle.next_ids.specs.declared.attributes.Delta.{Delta}
use Rattle.next_ids.specs.Times.{start}
use Rattle.next_ids.proofs.AttributeLemmas.{total-drop, latest-drop}
use Rattle.next_ids.proofs.attributes.fold.Goals as goal

pub loop-delta-preserved : goal.loop-delta-preserved
loop-delta-preserved c =
    let deltas = c.args.deltas.now in
    let i = c.loop-delta.delta-index in
    let none : Delta = record { children = pos 0; subdirs = pos 0; time = start } in
    let delta : Delta = get_or deltas i none in
    let children_fit : FitsSigned w32 delta.children = search rules in
    let subdirs_fit : FitsSigned w32 delta.subdirs = search rules in
    record {
      children = omega (arith, ints, total-drop (λ d. d.children) deltas i none c.loop-delta-test.true);
      subdirs = omega (arith, ints, total-drop (λ d. d.subdirs) deltas i none c.loop-delta-test.true);
      time = rw c.later-time.ensures (sym (latest-drop c.loop-delta.time deltas i none c.loop-delta-test.true)) ∙ c.loop-delta.invariant.time;
      children_low = omega (arith, ints);
      children_high = omega (arith, ints);
      subdirs_low = omega (arith, ints);
      subdirs_high = omega (arith, ints);
    }
