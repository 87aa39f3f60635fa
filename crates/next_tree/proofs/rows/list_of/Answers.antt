use Rattle.std.proofs.Common.{◌++◌, sym, ◌∙◌, ap, subst}
use Rattle.std.specs.Prelude.{T}
use Rattle.std.specs.Ordering.{nat_cmp}
use Rattle.std.specs.Cmp.Lexicographic.{slice_cmp}
use Rattle.std.specs.FinMap.{entries_sorted, is_sorted}
use Rattle.next_tree.proofs.Counting.{IsAbove-rising}
use Rattle.next_tree.proofs.rows.list_of.Goals as goal

pub push-requires : goal.push-requires
push-requires c =
    let left = rw c.in-Some.is at c.next.ensures.steps in
    let all = sym c.loop-name.invariant ∙ ap (λ es. c.loop-name.rows ++ es) left in
    rw c.in_ok-copy.ensures (IsAbove-rising c.loop-name.rows (c.in-Some.name.now, c.in-Some.node.now) c.next.new.self (subst (λ es. T (is_sorted (slice_cmp nat_cmp) es)) all (entries_sorted c.args.names.now)))
