use Rattle.std.proofs.Common.{◌≡◌, ◌≤◌, take}
use Rattle.next_ids.specs.Maps.{how_many}
use Rattle.next_print.specs.Texts.{is_unfinished}
use Rattle.next_print.proofs.write.count_unfinished.Given as goal

abbrev pub invariant-loop-item : goal.invariant-loop-item
invariant-loop-item l = (l.count ≡ how_many is_unfinished (take l.item-index l.items)) × (l.count ≤ l.item-index)
