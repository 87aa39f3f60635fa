use Rattle.std.proofs.Common.{pos, ◌+ℤ◌, arith}
use Rattle.std.proofs.lemmas.Int.{ints}
use Rattle.std.proofs.lemmas.List.Sorted.{length_permutation}
use Rattle.std.specs.Int.RustNames.{unsigned_abs}
use Rattle.next_ids.proofs.AttributeLemmas.{total-permuted, latest-permuted}
use Rattle.next_ids.proofs.attributes.any_order_folds_alike.Goals as goal

pub returns-clause-same : goal.returns-clause-same
returns-clause-same c base deltas others h =
    let children = total-permuted (λ d. d.children) deltas others h in
    let subdirs = total-permuted (λ d. d.subdirs) deltas others h in
    λ i. record {
      children = unsigned_abs (pos base.children +ℤ children i);
      subdirs = unsigned_abs (pos base.subdirs +ℤ subdirs i);
      time = latest-permuted base.time deltas others h i;
    }

pub returns-clause-may : goal.returns-clause-may
returns-clause-may c base deltas others h may =
    let children = total-permuted (λ d. d.children) deltas others h in
    let subdirs = total-permuted (λ d. d.subdirs) deltas others h in
    let long = length_permutation deltas others h in
    grind (arith, ints)
