use Rattle.std.proofs.Common.{rules, sym, subst}
use Rattle.std.specs.List.Sorted.{IsSortedByKey}
use Rattle.std.proofs.lemmas.List.Sorted.{answers_always}
use Rattle.next_history.specs.Merged.{stamp_of}
use Rattle.next_history.proofs.IndexLemmas.{stamp_cmp}
use Rattle.next_history.proofs.logs.merge.Goals as goal

pub returns-clause-sorted : goal.returns-clause-sorted
returns-clause-sorted c =
    let sorted = c.in_ok-sort_by_key.ensures.sorted stamp_of (answers_always _ _ _ (λ f a r g called. search rules)) in
    subst (IsSortedByKey stamp_of stamp_cmp) (sym c.of.ensures) sorted
