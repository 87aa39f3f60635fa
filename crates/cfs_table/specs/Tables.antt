-- What a table shows: its rows as one map, and its records. It has no locks.
use Rattle.std.specs.FinMap.{empty}
use Rattle.cfs_rules.specs.Places.{Shard}
use Rattle.cfs_table.specs.Flat.{flat}
use Rattle.cfs_table.specs.declared.table.Table.{Table}

abbrev pub contents_of : Table → Shard
contents_of table = record { rows = flat table.rows; recs = table.recs; locks = empty }
