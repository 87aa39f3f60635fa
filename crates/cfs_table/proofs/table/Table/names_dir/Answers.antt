use Rattle.std.proofs.Common.{◌∙◌, sym}
use Rattle.cfs_ids.specs.Namespace.{names_dir}
use Rattle.cfs_steps.specs.declared.contents.Row.{Row}
use Rattle.cfs_table.proofs.Listed.{list_any-flat}
use Rattle.cfs_table.proofs.table.Table.names_dir.Goals as goal

pub returns : goal.returns
returns c = c.any_names.ensures ∙ sym (list_any-flat (λ (row : Row). names_dir c.args.dir.0 row.node) c.args.self.now.rows)
