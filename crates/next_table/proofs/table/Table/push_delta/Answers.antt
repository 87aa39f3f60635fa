use Rattle.std.proofs.Common.{ap}
use Rattle.std.specs.FinMap.{empty}
use Rattle.next_ids.specs.Maps.{Numbers}
use Rattle.next_ids.specs.declared.attributes.Delta.{Delta}
use Rattle.std.specs.Prelude.{List}
use Rattle.next_steps.specs.declared.contents.DirRec.{DirRec}
use Rattle.next_table.specs.Flat.{flat}
use Rattle.next_table.specs.Records.{with_delta}
use Rattle.next_table.proofs.InPlace.{changed-there, written-same}
use Rattle.next_table.proofs.table.Table.push_delta.Goals as goal

pub returns-in-Ok-clause-ok : goal.returns-in-Ok-clause-ok
returns-in-Ok-clause-ok c =
    let new : DirRec = record c.in-Some.rec.now { pending = c.push.new.self } in
    let written = rw c.in-Some.is at (c.get_mut.follows.holds new) in
    ap (λ (recs : Numbers DirRec). record { rows = flat c.args.self.now.rows; recs = recs; locks = empty; debts = empty })
    (changed-there c.args.self.now.recs _ c.args.dir.0 (with_delta c.args.delta) c.in-Some.rec.now new (rw c.in-Some.is at c.get_mut.ensures.value) written (ap (λ (pending : List Delta). record c.in-Some.rec.now { pending = pending }) c.in-Ok.ensures.ok))

pub returns-in-Err-clause-err : goal.returns-in-Err-clause-err
returns-in-Err-clause-err c =
    let new : DirRec = record c.in-Some.rec.now { pending = c.push.new.self } in
    let written = rw c.in-Some.is at (c.get_mut.follows.holds new) in
    ap (λ (recs : Numbers DirRec). record c.args.self.now { recs = recs })
    (written-same c.args.self.now.recs _ c.args.dir.0 c.in-Some.rec.now new (rw c.in-Some.is at c.get_mut.ensures.value) written (ap (λ (pending : List Delta). record c.in-Some.rec.now { pending = pending }) c.in-Err.ensures.err))
