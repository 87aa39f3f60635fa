use Rattle.std.proofs.Common.{List, ℕ, ◌∙◌, ap}
use Rattle.std.specs.FinMap.{get}
use Rattle.next_ids.specs.declared.ids.Node.TheVariants.{File}
use Rattle.next_ids.specs.Maps.{row_key}
use Rattle.next_rules.specs.Contents.{Shard}
use Rattle.next_contents.specs.Shown.{contents_of}
use Rattle.next_changes.proofs.Undone.{is-set, row-there}
use Rattle.next_changes.proofs.rows.swap_rows.Goals as goal

pub undo_row-requires : goal.undo_row-requires
undo_row-requires c =
    let there = row-there _ _ c.args.dir _ _ (File c.args.file) c.args.at (c.in-Err.ensures.err ∙ c.in_ok-before.ensures.ok) c.in_ok-copy.ensures in
    is-set _ _ _ _ (ap (λ (t : Shard). t.rows) there)

pub returns-in-Err-clause-err : goal.returns-in-Err-clause-err
returns-in-Err-clause-err c =
    let there = row-there _ _ c.args.dir _ _ (File c.args.file) c.args.at (c.in-Err.ensures.err ∙ c.in_ok-before.ensures.ok) c.in_ok-copy.ensures in
    c.undo_row.ensures.contents _ _ _ there
    (c.in_ok-before.ensures.before ∙ ap (λ (n : List ℕ). get (contents_of c.args.contents.now).rows (row_key c.args.dir n)) c.in_ok-copy.ensures)
