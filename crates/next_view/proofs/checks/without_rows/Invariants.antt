use Rattle.std.proofs.Common.{◌≡◌, ◌+◌, length}
use Rattle.std.specs.Option.{option_map}
use Rattle.std.specs.Ordering.{nat_cmp}
use Rattle.std.specs.Cmp.Lexicographic.{slice_cmp}
use Rattle.std.specs.FinMap.{entries}
use Rattle.next_ids.specs.Maps.{how_many, row_key}
use Rattle.next_maps.specs.Walks.{entries_after}
use Rattle.next_shard.specs.Shards as shards
use Rattle.next_view.specs.Checks.{is_row_of}
use Rattle.next_view.proofs.checks.without_rows.Given as goal

-- what is left of the count and of the rows
abbrev pub invariant-loop-here : goal.invariant-loop-here
invariant-loop-here l =
    l.left + how_many (is_row_of l.dir.0 l.dirs_only) (entries (shards.contents_of l.shard).rows)
    ≡ l.count + how_many (is_row_of l.dir.0 l.dirs_only) (entries_after (slice_cmp nat_cmp) (option_map (λ place. row_key place.0 place.1.now) l.at) (entries (shards.contents_of l.shard).rows))

abbrev pub decreases-loop-here : goal.decreases-loop-here
decreases-loop-here l = length (entries_after (slice_cmp nat_cmp) (option_map (λ place. row_key place.0 place.1.now) l.at) (entries (shards.contents_of l.shard).rows))
