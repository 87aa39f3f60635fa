-- What the roster shows: the clients that ended, its log and its last number.
use Rattle.std.specs.Prelude.{ℕ, List}
use Rattle.cfs_steps.specs.declared.entry.Entry.{Entry}
use Rattle.cfs_rules.specs.Places.{Roster as Contents}
use Rattle.cfs_desk.specs.declared.roster.Roster.{Roster}

abbrev pub contents_of : Roster → Contents
contents_of roster = roster.ended

abbrev pub log_of : Roster → List Entry
log_of roster = roster.log

abbrev pub last_of : Roster → ℕ
last_of roster = roster.last
