-- What the desk shows: its jobs, and its journal with the log and the last number.
use Rattle.std.specs.Prelude.{ℕ, List}
use Rattle.next_steps.specs.declared.entry.Entry.{Entry}
use Rattle.next_journal.specs.declared.journal.Journal.{Journal}
use Rattle.next_journal.specs.Journals as journals
use Rattle.next_rules.specs.Contents.{Desk as Contents}
use Rattle.next_desk.specs.declared.desk.Desk.{Desk}

abbrev pub contents_of : Desk → Contents
contents_of desk = desk.jobs

abbrev pub journal_of : Desk → Journal
journal_of desk = desk.journal

abbrev pub log_of : Desk → List Entry
log_of desk = journals.log_of desk.journal

abbrev pub last_of : Desk → ℕ
last_of desk = journals.last_of desk.journal
