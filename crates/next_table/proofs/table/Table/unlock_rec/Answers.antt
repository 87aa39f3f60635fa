use Rattle.std.proofs.Common.{refl, ap}
use Rattle.std.specs.FinMap.{empty}
use Rattle.next_ids.specs.Maps.{Numbers}
use Rattle.next_steps.specs.declared.contents.DirRec.{DirRec}
use Rattle.next_table.specs.Flat.{flat}
use Rattle.next_table.specs.Records.{without_lock}
use Rattle.next_table.proofs.InPlace.{changed-there}
use Rattle.next_table.proofs.table.Table.unlock_rec.Goals as goal

pub returns-in-Some : goal.returns-in-Some
returns-in-Some c =
    let written = rw c.in-Some.is at (c.get_mut.follows.holds (without_lock c.in-Some.rec.now)) in
    ap (λ (recs : Numbers DirRec). record { rows = flat c.args.self.now.rows; recs = recs; locks = empty; debts = empty })
    (changed-there c.args.self.now.recs _ c.args.child.0 without_lock c.in-Some.rec.now _ (rw c.in-Some.is at c.get_mut.ensures.value) written refl)
