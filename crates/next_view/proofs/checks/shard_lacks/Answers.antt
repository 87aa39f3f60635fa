use Rattle.std.proofs.Common.{ap, sym, ◌∙◌, map}
use Rattle.std.specs.Prelude.{not}
use Rattle.std.specs.List.{list_any}
use Rattle.std.specs.Option.{option_map}
use Rattle.next_ids.specs.Maps.{row_key}
use Rattle.next_rules.specs.Several.{contents_in}
use Rattle.next_shard.specs.Shards as shards
use Rattle.next_view.specs.Checks.{has_record}
use Rattle.next_places.specs.PlaceLists.{shard_items, store_items}
use Rattle.next_places.specs.PlaceViews.{shard_view, store_view}
use Rattle.next_view.proofs.RowWalks.{all_rows, fewer_rows, any_next, passed_by}
use Rattle.next_view.proofs.checks.shard_lacks.Goals as goal

pub loop-here-init : goal.loop-here-init
loop-here-init c = ap (λ es. list_any (λ e. not (has_record (contents_in (map shard_view (shard_items c.args.places.now))) (contents_in (map store_view (store_items c.args.places.now))) e.1.node)) es) (sym (all_rows (shards.contents_of c.args.shard.now).rows))

pub loop-here-smaller : goal.loop-here-smaller
loop-here-smaller c = fewer_rows (shards.contents_of c.args.shard.now).rows (option_map (λ place. row_key place.0 place.1.now) c.loop-here.at) (row_key c.in-Some.here c.in-Some.name.now, c.in-Some.row.now) c.in-Some.ensures

pub loop-here-preserved : goal.loop-here-preserved
loop-here-preserved c = c.loop-here.invariant
    ∙ any_next (shards.contents_of c.args.shard.now).rows (option_map (λ place. row_key place.0 place.1.now) c.loop-here.at) (λ e. not (has_record (contents_in (map shard_view (shard_items c.args.places.now))) (contents_in (map store_view (store_items c.args.places.now))) e.1.node)) (row_key c.in-Some.here c.in-Some.name.now, c.in-Some.row.now) c.in-Some.ensures
    ∙ passed_by _ _ (ap not (sym c.has_record.ensures ∙ c.if-not-has_record.false))
