use Rattle.cfs_table.proofs.Flattened.{get-names_of}
use Rattle.cfs_table.proofs.table.Table.set_row.Goals as goal

pub returns-clause-before : goal.returns-clause-before
returns-clause-before c = rw (← get-names_of c.args.self.now.rows c.args.dir.0 c.args.name) c.set_name.ensures.before

pub returns-clause-there : goal.returns-clause-there
returns-clause-there c = rw (← get-names_of c.args.self.now.rows c.args.dir.0 c.args.name) c.set_name.ensures.there
