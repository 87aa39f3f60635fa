use Rattle.std.proofs.Common.{◌∙◌, ap}
use Rattle.next_table.specs.Flat.{flat}
use Rattle.next_table.proofs.Listed.{flat-empty}
use Rattle.next_contents.proofs.Opening.{opens}
use Rattle.next_contents.proofs.contents.Contents.new.Goals as goal

pub returns-clause-contents : goal.returns-clause-contents
returns-clause-contents c = opens c.args.index _ c.in_ok-table.ensures.rows c.in_ok-table.ensures.recs (ap flat c.new.ensures ∙ flat-empty) c.new-2.ensures.debts
