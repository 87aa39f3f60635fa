use Rattle.std.proofs.Common.{◌∙◌, sym}
use Rattle.next_ids.specs.Namespace.{names_dir}
use Rattle.next_steps.specs.declared.contents.Row.{Row}
use Rattle.next_table.proofs.Listed.{list_any-flat}
use Rattle.next_table.proofs.table.Table.names_dir.Goals as goal

pub returns : goal.returns
returns c = c.any_names.ensures ∙ sym (list_any-flat (λ (row : Row). names_dir c.args.dir.0 row.node) c.args.self.now.rows)
