-- What a shard shows: its rows, records and locks, its log, its last number and its index.
use Rattle.std.specs.Prelude.{ℕ, List}
use Rattle.cfs_steps.specs.declared.entry.Entry.{Entry}
use Rattle.cfs_table.specs.Flat.{flat}
use Rattle.cfs_table.specs.Tables.{contents_of as table_of}
use Rattle.cfs_rules.specs.Places.{Shard as Contents}
use Rattle.cfs_shard.specs.declared.shard.Shard.{Shard}

abbrev pub contents_of : Shard → Contents
contents_of shard = record (table_of shard.table) { locks = flat shard.locks }

abbrev pub log_of : Shard → List Entry
log_of shard = shard.log

abbrev pub last_of : Shard → ℕ
last_of shard = shard.last

abbrev pub index_of : Shard → ℕ
index_of shard = shard.index

-- all that a shard shows
pub record Shown : Type 0 where
  pub contents : Contents
  pub log : List Entry
  pub last : ℕ
  pub index : ℕ

abbrev pub shown : Shard → Shown
shown shard = record { contents = contents_of shard; log = log_of shard; last = last_of shard; index = index_of shard }
