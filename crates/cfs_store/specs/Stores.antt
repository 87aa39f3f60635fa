-- What a store shows: its records, its log, its last number and its index.
use Rattle.std.specs.Prelude.{ℕ, List}
use Rattle.cfs_steps.specs.declared.entry.Entry.{Entry}
use Rattle.cfs_rules.specs.Places.{Store as Contents}
use Rattle.cfs_store.specs.declared.store.Store.{Store}

abbrev pub contents_of : Store → Contents
contents_of store = store.files

abbrev pub log_of : Store → List Entry
log_of store = store.log

abbrev pub last_of : Store → ℕ
last_of store = store.last

abbrev pub index_of : Store → ℕ
index_of store = store.index
