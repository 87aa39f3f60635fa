-- What the desk shows: its log and its last number.
use Rattle.std.specs.Prelude.{ℕ, List}
use Rattle.cfs_steps.specs.declared.entry.Entry.{Entry}
use Rattle.cfs_desk.specs.declared.desk.Desk.{Desk}

abbrev pub log_of : Desk → List Entry
log_of desk = desk.log

abbrev pub last_of : Desk → ℕ
last_of desk = desk.last
