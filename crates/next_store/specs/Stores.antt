-- What a store shows: its records, its journal with the log and the last number, and its index.
use Rattle.std.specs.Prelude.{ℕ, List}
use Rattle.next_steps.specs.declared.entry.Entry.{Entry}
use Rattle.next_journal.specs.declared.journal.Journal.{Journal}
use Rattle.next_journal.specs.Journals as journals
use Rattle.next_rules.specs.Contents.{Store as Contents}
use Rattle.next_store.specs.declared.store.Store.{Store}

abbrev pub contents_of : Store → Contents
contents_of store = store.files

abbrev pub journal_of : Store → Journal
journal_of store = store.journal

abbrev pub log_of : Store → List Entry
log_of store = journals.log_of store.journal

abbrev pub last_of : Store → ℕ
last_of store = journals.last_of store.journal

abbrev pub index_of : Store → ℕ
index_of store = store.index
