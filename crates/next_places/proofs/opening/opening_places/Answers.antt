use Rattle.std.proofs.Common.{◌≡◌, ◌∙◌, ◌+◌, ◌++◌, ◌∷◌, [], sym, ap, subst, arith}
use Rattle.next_places.specs.declared.place.Place.TheVariants as kind
use Rattle.next_places.specs.PlaceLists.{counts_in, AreService}
use Rattle.next_places.specs.Views.{held_in}
use Rattle.next_places.proofs.Openings.{IsOpening, StartsShards, StartsStores, shard_more, store_more, shard_starts, store_starts, stores_start, opens_held, opens_counts, opens_service}
use Rattle.next_places.proofs.opening.opening_places.Goals as goal

pub loop-index-preserved : goal.loop-index-preserved
loop-index-preserved c =
    let more : c.push.new.self.items ≡ c.loop-index.places.items ++ kind.Shard c.in_ok-new.field-0 ∷ [] = c.in_ok-push.ensures.items in
    record {
      opening = subst (IsOpening (c.loop-index.index + 1) 0) (sym more) (shard_more c.loop-index.index 0 c.loop-index.places.items c.in_ok-new.field-0 c.loop-index.invariant.opening
          (record { contents = c.in_ok-new.ensures.contents; log = c.in_ok-new.ensures.log; last = c.in_ok-new.ensures.last; index_is = c.in_ok-new.ensures.index }));
      starts = subst StartsShards (sym more) (shard_starts c.loop-index.places.items c.in_ok-new.field-0 c.loop-index.invariant.starts);
    }

pub loop-index-2-init : goal.loop-index-2-init
loop-index-2-init c = record {
  opening = subst (λ n. IsOpening n 0 c.loop-index.places.items) (omega (arith, c.loop-index-test.false, c.loop-index.auto.index-end)) c.loop-index.invariant.opening;
  starts = stores_start c.loop-index.places.items c.loop-index.invariant.starts;
}

pub loop-index-2-preserved : goal.loop-index-2-preserved
loop-index-2-preserved c =
    let more : c.push-in-loop-index-2.new.self.items ≡ c.loop-index-2.places.items ++ kind.Store c.new-in-loop-index-2.result ∷ [] = c.in_ok-push-2.ensures.items in
    record {
      opening = subst (IsOpening c.args.counts.shards (c.loop-index-2.index + 1)) (sym more) (store_more c.args.counts.shards c.loop-index-2.index c.loop-index-2.places.items c.new-in-loop-index-2.result c.loop-index-2.invariant.opening
          (record { contents = c.new-in-loop-index-2.ensures.contents; log = c.new-in-loop-index-2.ensures.log; last = c.new-in-loop-index-2.ensures.last; index_is = c.new-in-loop-index-2.ensures.index }));
      starts = subst StartsStores (sym more) (store_starts c.loop-index-2.places.items c.new-in-loop-index-2.result c.loop-index-2.invariant.starts);
    }

pub returns-clause-held : goal.returns-clause-held
returns-clause-held c =
    let all : c.push-3.new.self.items ≡ (c.loop-index-2.places.items ++ kind.Desk c.new-2.result ∷ []) ++ kind.Roster c.new-3.result ∷ [] = c.in_ok-push-4.ensures.items ∙ ap (λ ps. ps ++ kind.Roster c.new-3.result ∷ []) c.in_ok-push-3.ensures.items in
    let opening : IsOpening c.args.counts.shards c.args.counts.stores c.loop-index-2.places.items = subst (λ m. IsOpening c.args.counts.shards m c.loop-index-2.places.items) (omega (arith, c.loop-index-2-test.false, c.loop-index-2.auto.index-end)) c.loop-index-2.invariant.opening in
    ap held_in all ∙ opens_held c.args.counts.shards c.args.counts.stores c.loop-index-2.places.items c.new-2.result c.new-3.result opening c.requires c.loop-index-2.invariant.starts c.new-2.ensures.contents
    c.new-2.ensures.last c.new-2.ensures.log c.new-3.ensures.last c.new-3.ensures.log c.new-3.ensures.stopped c.new-3.ensures.ended

pub returns-clause-counts : goal.returns-clause-counts
returns-clause-counts c =
    let all : c.push-3.new.self.items ≡ (c.loop-index-2.places.items ++ kind.Desk c.new-2.result ∷ []) ++ kind.Roster c.new-3.result ∷ [] = c.in_ok-push-4.ensures.items ∙ ap (λ ps. ps ++ kind.Roster c.new-3.result ∷ []) c.in_ok-push-3.ensures.items in
    let opening : IsOpening c.args.counts.shards c.args.counts.stores c.loop-index-2.places.items = subst (λ m. IsOpening c.args.counts.shards m c.loop-index-2.places.items) (omega (arith, c.loop-index-2-test.false, c.loop-index-2.auto.index-end)) c.loop-index-2.invariant.opening in
    ap counts_in all ∙ opens_counts c.args.counts.shards c.args.counts.stores c.loop-index-2.places.items c.new-2.result c.new-3.result opening c.requires c.loop-index-2.invariant.starts c.new-2.ensures.contents
    c.new-2.ensures.last c.new-2.ensures.log c.new-3.ensures.last c.new-3.ensures.log c.new-3.ensures.stopped c.new-3.ensures.ended

pub returns-clause-service : goal.returns-clause-service
returns-clause-service c =
    let all : c.push-3.new.self.items ≡ (c.loop-index-2.places.items ++ kind.Desk c.new-2.result ∷ []) ++ kind.Roster c.new-3.result ∷ [] = c.in_ok-push-4.ensures.items ∙ ap (λ ps. ps ++ kind.Roster c.new-3.result ∷ []) c.in_ok-push-3.ensures.items in
    let opening : IsOpening c.args.counts.shards c.args.counts.stores c.loop-index-2.places.items = subst (λ m. IsOpening c.args.counts.shards m c.loop-index-2.places.items) (omega (arith, c.loop-index-2-test.false, c.loop-index-2.auto.index-end)) c.loop-index-2.invariant.opening in
    subst AreService (sym all) (opens_service c.args.counts.shards c.args.counts.stores c.loop-index-2.places.items c.new-2.result c.new-3.result opening c.requires c.loop-index-2.invariant.starts c.new-2.ensures.contents
    c.new-2.ensures.last c.new-2.ensures.log c.new-3.ensures.last c.new-3.ensures.log c.new-3.ensures.stopped c.new-3.ensures.ended)
