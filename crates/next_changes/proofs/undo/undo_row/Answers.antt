use Rattle.std.proofs.Common.{sym, ◌∙◌, ap}
use Rattle.next_ids.specs.Maps.{Names, row_key}
use Rattle.next_steps.specs.declared.contents.Row.{Row}
use Rattle.next_rules.specs.Contents.{Shard}
use Rattle.next_rules.specs.Changes.{set_row, cut_row}
use Rattle.next_changes.proofs.Undone.{set-back, cut-back, on-ok}
use Rattle.next_changes.proofs.undo.undo_row.Goals as goal

pub returns-in-Some-clause-contents : goal.returns-in-Some-clause-contents
returns-in-Some-clause-contents c s node at set before =
    on-ok c.set_row.result (c.set_row.ensures.there c.requires) c.set_row.ensures.ok
    ∙ ap (λ (t : Shard). set_row t c.args.dir c.args.name c.in-Some.row.node c.in-Some.row.stamp) set
    ∙ ap (λ (rows : Names Row). record s { rows = rows }) (set-back s.rows (row_key c.args.dir c.args.name) (record { node = node; stamp = at }) c.in-Some.row (sym c.in-Some.is ∙ before))

pub returns-in-None-clause-contents : goal.returns-in-None-clause-contents
returns-in-None-clause-contents c s node at set before =
    c.cut_row.ensures.contents
    ∙ ap (λ (t : Shard). cut_row t c.args.dir c.args.name) set
    ∙ ap (λ (rows : Names Row). record s { rows = rows }) (cut-back s.rows (row_key c.args.dir c.args.name) (record { node = node; stamp = at }) (sym c.in-None.is ∙ before))
