use Rattle.std.proofs.Common.{sym, ◌∙◌, ap}
use Rattle.next_rules.specs.Owning.{merged_at}
use Rattle.next_table.specs.Records.{changed_at}
use Rattle.next_table.proofs.InTurn.{changed-start, changed-all, changed-next, changed-smaller, now-shown, old-shown}
use Rattle.next_table.proofs.merging.merge_all.Goals as goal

pub loop-dir-init : goal.loop-dir-init
loop-dir-init c = changed-start (merged_at c.args.place) c.args.recs.now

pub merge_at-requires : goal.merge_at-requires
merge_at-requires c =
    let change = merged_at c.args.place in
    let before = old-shown change c.args.recs.now c.loop-dir.at c.loop-dir.recs c.loop-dir.invariant c.in-Some.dir _ c.in-Some.ensures in
    let now = now-shown change c.args.recs.now c.loop-dir.at c.loop-dir.recs c.loop-dir.invariant c.in-Some.dir _ c.in-Some.ensures in
    λ r there. c.requires c.in-Some.dir r (before ∙ sym now ∙ there)

pub loop-dir-smaller : goal.loop-dir-smaller
loop-dir-smaller c =
    let change = merged_at c.args.place in
    let now = now-shown change c.args.recs.now c.loop-dir.at c.loop-dir.recs c.loop-dir.invariant c.in-Some.dir _ c.in-Some.ensures in
    changed-smaller change c.args.recs.now c.loop-dir.at c.loop-dir.recs c.loop-dir.invariant c.in-Some.dir _ c.in-Some.ensures c.merge_at.new.recs
    (c.merge_at.ensures ∙ ap (changed_at c.loop-dir.recs c.in-Some.dir (change c.in-Some.dir)) now)

pub loop-dir-preserved : goal.loop-dir-preserved
loop-dir-preserved c =
    let change = merged_at c.args.place in
    let now = now-shown change c.args.recs.now c.loop-dir.at c.loop-dir.recs c.loop-dir.invariant c.in-Some.dir _ c.in-Some.ensures in
    changed-next change c.args.recs.now c.loop-dir.at c.loop-dir.recs c.loop-dir.invariant c.in-Some.dir _ c.in-Some.ensures c.merge_at.new.recs
    (c.merge_at.ensures ∙ ap (changed_at c.loop-dir.recs c.in-Some.dir (change c.in-Some.dir)) now)

pub returns : goal.returns
returns c = changed-all (merged_at c.args.place) c.args.recs.now c.loop-dir.at c.loop-dir.recs c.loop-dir.invariant c.in_default.ensures
