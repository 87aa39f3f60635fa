use Rattle.std.proofs.Common.{List, ℕ, false, sym, ◌∙◌, ap}
use Rattle.std.specs.FinMap.{get}
use Rattle.next_ids.specs.declared.ids.Side.TheVariants.{Committed}
use Rattle.next_ids.specs.Maps.{row_key}
use Rattle.next_rules.specs.Contents.{Shard}
use Rattle.next_contents.specs.Shown.{contents_of}
use Rattle.next_changes.proofs.Undone.{is-set, lock-there}
use Rattle.next_changes.proofs.moving.lock_new.Goals as goal

pub undo_lock-requires : goal.undo_lock-requires
undo_lock-requires c =
    let same = c.in_ok-name.ensures ∙ sym c.in_ok-spare.ensures in
    let there = lock-there _ _ c.args.job_move.now.to_dir _ _ (record { job = c.args.job_move.now.job; side = Committed; reserves = false }) (c.in-Err.ensures.err ∙ c.in_ok-before.ensures.ok) same in
    is-set _ _ _ _ (ap (λ (t : Shard). t.locks) there)

pub returns-in-Err-clause-err : goal.returns-in-Err-clause-err
returns-in-Err-clause-err c =
    let same = c.in_ok-name.ensures ∙ sym c.in_ok-spare.ensures in
    let there = lock-there _ _ c.args.job_move.now.to_dir _ _ (record { job = c.args.job_move.now.job; side = Committed; reserves = false }) (c.in-Err.ensures.err ∙ c.in_ok-before.ensures.ok) same in
    c.undo_lock.ensures.contents _ _ there
    (c.in_ok-before.ensures.before ∙ ap (λ (n : List ℕ). get (contents_of c.args.contents.now).locks (row_key c.args.job_move.now.to_dir n)) same)
