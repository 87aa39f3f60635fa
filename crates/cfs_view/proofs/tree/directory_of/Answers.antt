use Rattle.cfs_shard.specs.Shards as shards
use Rattle.cfs_view.proofs.TreeParts.{dir-shown}
use Rattle.cfs_view.proofs.tree.directory_of.Goals as goal

pub returns : goal.returns
returns c = dir-shown (shards.contents_of c.args.shard.now) c.args.dir.0 c.args.rec.now c.in_ok-rows.rows c.of_rows.result c.in_ok-rows.ensures.rows c.of_rows.ensures
