-- What a table shows: its rows as one map, and its records. It has no locks and no debts.
use Rattle.std.specs.FinMap.{empty}
use Rattle.next_rules.specs.Contents.{Shard}
use Rattle.next_table.specs.Flat.{flat}
use Rattle.next_table.specs.declared.table.Table.{Table}

abbrev pub contents_of : Table → Shard
contents_of table = record { rows = flat table.rows; recs = table.recs; locks = empty; debts = empty }
