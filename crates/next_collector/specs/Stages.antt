-- The strays of a place that are still to do, as a phase of the round.
use Rattle.std.specs.Prelude.{suc, Option, Some, None, slice_get, drop}
use Rattle.next_ids.specs.declared.counts.Counts.{Counts}
use Rattle.next_steps.specs.Rounds.{RoundPhase, Visit, items_done}
use Rattle.next_collector.specs.declared.items.Items.{Items}
use Rattle.next_collector.specs.Works.{working}

abbrev pub item_phase : Visit → Items → RoundPhase
item_phase v items = working v (slice_get items.strays items.index) items.work (drop (suc items.index) items.strays)

-- where none are left, the place is done
abbrev pub items_phase : Counts → Visit → Option Items → RoundPhase
items_phase counts v None = items_done counts v
items_phase counts v (Some items) = item_phase v items
