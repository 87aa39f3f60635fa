use Rattle.cfs_laws_history.proofs.EachLine.{each-line}
use Rattle.cfs_laws_history.proofs.no_line_is_lost.Goals as goal

pub returns : goal.returns
returns c = each-line
