-- What a shard shows: its contents, its journal with the log and the last number, and its index.
use Rattle.std.specs.Prelude.{ℕ, List}
use Rattle.next_steps.specs.declared.entry.Entry.{Entry}
use Rattle.next_journal.specs.declared.journal.Journal.{Journal}
use Rattle.next_journal.specs.Journals as journals
use Rattle.next_rules.specs.Contents.{Shard as Contents}
use Rattle.next_contents.specs.Shown as shown
use Rattle.next_shard.specs.declared.shard.Shard.{Shard}

abbrev pub contents_of : Shard → Contents
contents_of shard = shown.contents_of shard.contents

abbrev pub journal_of : Shard → Journal
journal_of shard = shard.journal

abbrev pub log_of : Shard → List Entry
log_of shard = journals.log_of shard.journal

abbrev pub last_of : Shard → ℕ
last_of shard = journals.last_of shard.journal

abbrev pub index_of : Shard → ℕ
index_of shard = (shown.place_of shard.contents).0

-- all that a shard shows
pub record Shows : Type 0 where
  pub contents : Contents
  pub log : List Entry
  pub last : ℕ
  pub index : ℕ

abbrev pub shows : Shard → Shows
shows shard =
    record { contents = contents_of shard; log = log_of shard; last = last_of shard; index = index_of shard }
