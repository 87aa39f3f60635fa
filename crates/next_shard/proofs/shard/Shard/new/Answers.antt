use Rattle.std.proofs.Common.{ap}
use Rattle.next_ids.specs.declared.ids.PlaceNo.{PlaceNo}
use Rattle.next_contents.specs.Shown as held
use Rattle.next_shard.proofs.Kept.{opened}
use Rattle.next_shard.proofs.shard.Shard.new.Goals as goal

pub invariant_of-result : goal.invariant_of-result
invariant_of-result c =
    let h = opened (held.place_of c.in_ok-contents.contents).0 c.args.index c.new-2.result.last c.new-2.result.log (held.contents_of c.in_ok-contents.contents) (ap (λ (p : PlaceNo). p.0) c.in_ok-contents.ensures.place) c.requires c.new-2.ensures.last c.new-2.ensures.log c.in_ok-contents.ensures.contents in
    record { small = h.small; own = h.own; known = h.known; sums = h.sums; within = h.within }
