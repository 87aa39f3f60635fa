-- What the roster shows: the clients that stopped and those that ended, and its journal with the log and the last number.
use Rattle.std.specs.Prelude.{ℕ, List}
use Rattle.next_steps.specs.declared.entry.Entry.{Entry}
use Rattle.next_journal.specs.declared.journal.Journal.{Journal}
use Rattle.next_journal.specs.Journals as journals
use Rattle.next_rules.specs.Contents.{Roster as Contents}
use Rattle.next_desk.specs.declared.roster.Roster.{Roster}

abbrev pub contents_of : Roster → Contents
contents_of roster = record { stopped = roster.stopped; ended = roster.ended }

abbrev pub journal_of : Roster → Journal
journal_of roster = roster.journal

abbrev pub log_of : Roster → List Entry
log_of roster = journals.log_of roster.journal

abbrev pub last_of : Roster → ℕ
last_of roster = journals.last_of roster.journal
