use Rattle.std.proofs.Common.{◌∙◌, ap}
use Rattle.std.specs.FinMap.{empty}
use Rattle.next_steps.specs.declared.contents.Row.{Row}
use Rattle.next_ids.specs.Maps.{Names}
use Rattle.next_table.specs.Flat.{flat}
use Rattle.next_table.proofs.Flattened.{get-names_of, flat-without_name}
use Rattle.next_table.proofs.table.Table.cut_row.Goals as goal

pub returns-clause-contents : goal.returns-clause-contents
returns-clause-contents c = ap (λ (rows : Names Row). record { rows = rows; recs = c.args.self.now.recs; locks = empty; debts = empty }) (ap flat c.cut_name.ensures.map ∙ flat-without_name c.args.self.now.rows c.args.dir.0 c.args.name.now)

pub returns-clause-before : goal.returns-clause-before
returns-clause-before c = c.cut_name.ensures.before ∙ get-names_of c.args.self.now.rows c.args.dir.0 c.args.name.now
