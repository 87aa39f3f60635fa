-- What a journal shows: its log and its last number.
use Rattle.std.specs.Prelude.{ℕ, List, Bool, length}
use Rattle.next_steps.specs.declared.entry.Entry.{Entry}
use Rattle.next_rules.specs.Contents.{is_full as is_full_at}
use Rattle.next_journal.specs.declared.journal.Journal.{Journal}

abbrev pub log_of : Journal → List Entry
log_of journal = journal.log

abbrev pub last_of : Journal → ℕ
last_of journal = journal.last

-- no step is made after this last number of its actor
abbrev pub is_full : Journal → (last : ℕ) → Bool
is_full journal last = is_full_at (length journal.log) last journal.last
