use Rattle.std.proofs.Common.{◌≡◌, sym, ap, None}
use Rattle.std.specs.Prelude.{Some}
use Rattle.std.specs.Ordering.{nat_cmp}
use Rattle.std.specs.Cmp.Lexicographic.{slice_cmp}
use Rattle.std.specs.FinMap.{get}
use Rattle.next_maps.specs.Walks.{entries_after, first_of}
use Rattle.next_ids.proofs.Entries.{entries-empty}
use Rattle.next_table.proofs.walk.next_name.Goals as goal

pub returns-in-None : goal.returns-in-None
returns-in-None g c =
    let none : get c.args.maps.now c.args.dir ≡ None = sym c.in-None.ensures in
    rw none (ap (λ rs. first_of (entries_after (slice_cmp nat_cmp) (Some c.args.after.now) rs)) (sym (entries-empty {X = g.row.V.Denot} (slice_cmp nat_cmp))))
