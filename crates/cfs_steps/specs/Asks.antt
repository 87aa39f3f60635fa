-- The place of an ask.
use Rattle.std.specs.Prelude.{◌+◌, ◌%◌}
use Rattle.cfs_ids.specs.declared.ids.DirId.{DirId}
use Rattle.cfs_ids.specs.declared.ids.Node.{Node}
use Rattle.cfs_ids.specs.declared.ids.Node.TheVariants.{Dir, File}
use Rattle.cfs_ids.specs.declared.ids.PlaceNo.{PlaceNo}
use Rattle.cfs_steps.specs.declared.ask.Ask.{Ask}
use Rattle.cfs_steps.specs.declared.ask.Ask.TheVariants.{Read, List, Insert, Put, PutDir, Settle, TakeBack, End}

-- a directory lies in the shard of its number modulo 64
abbrev pub shard_of : DirId → PlaceNo
shard_of dir = record { 0 = dir.0 % 64 }

-- where the record of a node is
abbrev pub home_of : Node → PlaceNo
home_of (Dir dir) = shard_of dir
home_of (File file) = record { 0 = 64 + file.0 % 64 }

abbrev pub place_of : Ask → PlaceNo
place_of (Read dir name) = shard_of dir
place_of (List dir) = shard_of dir
place_of (Insert client dir name node ts) = shard_of dir
place_of (Put client at home) = at
place_of (PutDir client at dir name) = at
place_of (Settle node) = home_of node
place_of (TakeBack client node) = home_of node
place_of (End client) = record { 0 = 129 }
