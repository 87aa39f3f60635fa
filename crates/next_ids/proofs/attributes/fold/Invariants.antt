use Rattle.std.proofs.Common.{◌≡◌, ◌*◌, drop, pos, ◌+ℤ◌, neg_ℤ, ◌≤ℤ◌}
use Rattle.next_ids.specs.Attributes.{total, latest}
use Rattle.next_ids.proofs.attributes.fold.Given as goal

-- what is summed so far and the rest make the whole; each delta adds at most 2^31 either way
abbrev pub invariant-loop-delta : goal.invariant-loop-delta
invariant-loop-delta l = record {
  children : l.children +ℤ total (λ d. d.children) (drop l.delta-index l.deltas) ≡ total (λ d. d.children) l.deltas;
  subdirs : l.subdirs +ℤ total (λ d. d.subdirs) (drop l.delta-index l.deltas) ≡ total (λ d. d.subdirs) l.deltas;
  time : latest l.time (drop l.delta-index l.deltas) ≡ latest l.fn.base.time l.deltas;
  children_low : neg_ℤ (pos (2147483648 * l.delta-index)) ≤ℤ l.children;
  children_high : l.children ≤ℤ pos (2147483648 * l.delta-index);
  subdirs_low : neg_ℤ (pos (2147483648 * l.delta-index)) ≤ℤ l.subdirs;
  subdirs_high : l.subdirs ≤ℤ pos (2147483648 * l.delta-index);
}
