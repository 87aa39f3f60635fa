use Rattle.std.proofs.Common.{◌∙◌, ap}
use Rattle.cfs_table.specs.Flat.{flat}
use Rattle.cfs_table.proofs.Flattened.{get-names_of, flat-without_name}
use Rattle.cfs_table.proofs.table.Table.cut_row.Goals as goal

pub returns-clause-rows : goal.returns-clause-rows
returns-clause-rows c = ap flat c.cut_name.ensures.map ∙ flat-without_name c.args.self.now.rows c.args.dir.0 c.args.name.now

pub returns-clause-before : goal.returns-clause-before
returns-clause-before c = c.cut_name.ensures.before ∙ get-names_of c.args.self.now.rows c.args.dir.0 c.args.name.now
