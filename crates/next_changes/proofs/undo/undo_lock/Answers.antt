use Rattle.std.proofs.Common.{sym, ◌∙◌, ap}
use Rattle.next_ids.specs.Maps.{Names, row_key}
use Rattle.next_steps.specs.declared.contents.RowLock.{RowLock}
use Rattle.next_rules.specs.Contents.{Shard}
use Rattle.next_rules.specs.Changes.{set_lock, end_lock}
use Rattle.next_changes.proofs.Undone.{set-back, cut-back, on-ok}
use Rattle.next_changes.proofs.undo.undo_lock.Goals as goal

pub returns-in-Some-clause-contents : goal.returns-in-Some-clause-contents
returns-in-Some-clause-contents c s lock set before =
    on-ok c.set_lock.result (c.set_lock.ensures.there c.requires) c.set_lock.ensures.ok
    ∙ ap (λ (t : Shard). set_lock t c.args.dir c.args.name c.in-Some.lock) set
    ∙ ap (λ (locks : Names RowLock). record s { locks = locks }) (set-back s.locks (row_key c.args.dir c.args.name) lock c.in-Some.lock (sym c.in-Some.is ∙ before))

pub returns-in-None-clause-contents : goal.returns-in-None-clause-contents
returns-in-None-clause-contents c s lock set before =
    c.end_lock.ensures.contents
    ∙ ap (λ (t : Shard). end_lock t c.args.dir c.args.name) set
    ∙ ap (λ (locks : Names RowLock). record s { locks = locks }) (cut-back s.locks (row_key c.args.dir c.args.name) lock (sym c.in-None.is ∙ before))
