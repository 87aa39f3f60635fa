use Rattle.std.proofs.Common.{ap, sym, ◌+◌}
use Rattle.std.specs.Ordering.{nat_cmp}
use Rattle.std.specs.Cmp.Lexicographic.{slice_cmp}
use Rattle.std.specs.FinMap.{entries}
use Rattle.std.specs.Option.{option_map}
use Rattle.std.specs.Prelude.{Some}
use Rattle.next_ids.specs.Maps.{how_many, row_key}
use Rattle.next_maps.specs.Walks.{entries_after}
use Rattle.next_shard.specs.Shards as shards
use Rattle.next_view.specs.Checks.{is_row_of}
use Rattle.next_view.proofs.RowWalks.{all_rows, fewer_rows, many_next, row_taken}
use Rattle.next_view.proofs.checks.without_rows.Goals as goal

pub loop-here-init : goal.loop-here-init
loop-here-init c = ap (λ es. c.args.count + how_many (is_row_of c.args.dir.0 c.args.dirs_only) es) (sym (all_rows (shards.contents_of c.args.shard.now).rows))

pub loop-here-smaller : goal.loop-here-smaller
loop-here-smaller c = fewer_rows (shards.contents_of c.args.shard.now).rows (option_map (λ place. row_key place.0 place.1.now) c.loop-here.at) (row_key c.in-Some.here c.in-Some.name.now, c.in-Some.row.now) c.in-Some.ensures

pub loop-here-preserved : goal.loop-here-preserved
loop-here-preserved c =
    let rows = (shards.contents_of c.args.shard.now).rows in
    let p = is_row_of c.args.dir.0 c.args.dirs_only in
    row_taken (p (row_key c.in-Some.here c.in-Some.name.now, c.in-Some.row.now)) c.is_row_of.result (c.is_row_of.ensures c.in-Some.name.now) c.loop-here.left c.in_ok-left.left c.args.count (how_many p (entries rows))
    (how_many p (entries_after (slice_cmp nat_cmp) (option_map (λ place. row_key place.0 place.1.now) c.loop-here.at) (entries rows))) (how_many p (entries_after (slice_cmp nat_cmp) (Some (row_key c.in-Some.here c.in-Some.name.now)) (entries rows)))
    c.loop-here.invariant (many_next rows (option_map (λ place. row_key place.0 place.1.now) c.loop-here.at) p (row_key c.in-Some.here c.in-Some.name.now, c.in-Some.row.now) c.in-Some.ensures) c.in_ok-left.ensures.some
