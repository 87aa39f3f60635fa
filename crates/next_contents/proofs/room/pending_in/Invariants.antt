use Rattle.std.proofs.Common.{◌≡◌, ◌+◌, length}
use Rattle.std.specs.Prelude.{◌||◌}
use Rattle.std.specs.List.{filter}
use Rattle.std.specs.Option.{option_or}
use Rattle.std.specs.FinMap.{entries}
use Rattle.next_rules.specs.Room.{may_leave, may_come, first_job}
use Rattle.next_table.specs.Tables.{contents_of as table_of}
use Rattle.next_contents.proofs.room.pending_in.Given as goal

-- what is counted so far and what the rest counts make the whole
abbrev pub invariant-loop-name : goal.invariant-loop-name
invariant-loop-name l = record {
  leaving : l.pending.leaving + length (filter (may_leave (table_of l.table) l.dir) l.name-iterator) ≡ length (filter (may_leave (table_of l.table) l.dir) (entries l.names));
  coming : l.pending.coming + length (filter may_come l.name-iterator) ≡ length (filter may_come (entries l.names));
  job : option_or l.pending.job (first_job (filter (λ e. may_leave (table_of l.table) l.dir e || may_come e) l.name-iterator)) ≡ first_job (filter (λ e. may_leave (table_of l.table) l.dir e || may_come e) (entries l.names));
}
