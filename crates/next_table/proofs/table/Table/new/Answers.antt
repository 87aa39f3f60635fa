use Rattle.std.proofs.Common.{◌∙◌, ap}
use Rattle.next_table.specs.Flat.{flat}
use Rattle.next_table.proofs.Listed.{flat-empty}
use Rattle.next_table.proofs.table.Table.new.Goals as goal

pub returns-clause-rows : goal.returns-clause-rows
returns-clause-rows c = ap flat c.new.ensures ∙ flat-empty
