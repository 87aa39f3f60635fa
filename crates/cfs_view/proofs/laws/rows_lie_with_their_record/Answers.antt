use Rattle.cfs_rules.proofs.Together.{own-together}
use Rattle.cfs_rules.specs.Several.{contents_in}
use Rattle.cfs_view.specs.Views.{shards_of}
use Rattle.cfs_view.proofs.laws.rows_lie_with_their_record.Goals as goal

pub returns : goal.returns
returns c places service = own-together (contents_in (shards_of places)) service.all.shards.own
