use Rattle.std.proofs.Common.{sym, ◌∙◌, ap}
use Rattle.std.specs.Prelude.{if◌then◌else◌}
use Rattle.next_steps.specs.declared.contents.DirRec.{DirRec}
use Rattle.next_rules.specs.Changes.{merged}
use Rattle.next_rules.specs.Owning.{merged_at}
use Rattle.next_table.proofs.InPlace.{changed-there, changed-nothing}
use Rattle.next_table.proofs.merging.merge_at.Goals as goal

pub returns-then-not-lies_here : goal.returns-then-not-lies_here
returns-then-not-lies_here c =
    changed-nothing c.args.recs.now c.args.dir (merged_at c.args.place c.args.dir)
    (λ r. ap (λ b. if b then merged r else r) (sym c.lies_here.ensures ∙ c.if-not-lies_here.true))

pub returns-in-Some : goal.returns-in-Some
returns-in-Some c =
    let rec : DirRec = c.in-Some.rec.now in
    let written = rw c.in-Some.is at (c.get_mut.follows.holds c.work_in.new.rec) in
    changed-there c.args.recs.now _ c.args.dir (merged_at c.args.place c.args.dir) rec _ (rw c.in-Some.is at c.get_mut.ensures.value) written
    (c.work_in.ensures ∙ sym (ap (λ b. if b then merged rec else rec) (sym c.lies_here.ensures ∙ c.if-not-lies_here.false)))
