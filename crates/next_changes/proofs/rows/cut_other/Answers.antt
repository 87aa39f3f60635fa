use Rattle.std.proofs.Common.{◌≡◌, ℕ, List, sym, ◌∙◌, ap}
use Rattle.std.specs.FinMap.{insert, remove}
use Rattle.next_ids.specs.Maps.{Names, row_key}
use Rattle.next_steps.specs.declared.contents.Row.{Row}
use Rattle.next_contents.specs.Shown.{contents_of}
use Rattle.next_changes.proofs.Undone.{cut-other, cut-same, keys-apart, names-same}
use Rattle.next_changes.proofs.rows.cut_other.Goals as goal

pub returns-then-ne-clause-contents : goal.returns-then-ne-clause-contents
returns-then-ne-clause-contents c rows row is =
    c.cut_row.ensures.contents
    ∙ ap (λ (m : Names Row). record (contents_of c.args.contents.now) { rows = remove m (row_key c.args.dir c.args.name.now) }) is
    ∙ ap (λ (m : Names Row). record (contents_of c.args.contents.now) { rows = m })
    (cut-other rows (row_key c.args.dir c.args.to_name.now) (row_key c.args.dir c.args.name.now) row (keys-apart c.ne.result c.args.dir.0 c.args.name.now c.args.to_name.now c.ne.ensures c.if-ne.true))

pub returns-else-ne-clause-contents : goal.returns-else-ne-clause-contents
returns-else-ne-clause-contents c rows row is =
    let same : c.args.name.now ≡ c.args.to_name.now = names-same c.ne.result c.args.name.now c.args.to_name.now c.ne.ensures c.if-ne.false in
    ap (λ (m : Names Row). record (contents_of c.args.contents.now) { rows = m })
    (is ∙ sym (cut-same rows (row_key c.args.dir c.args.to_name.now) row)
    ∙ ap (λ (n : List ℕ). insert (remove rows (row_key c.args.dir n)) (row_key c.args.dir c.args.to_name.now) row) (sym same))
