-- What the contents of a shard are seen as, and which shard they are of.
use Rattle.next_ids.specs.declared.ids.PlaceNo.{PlaceNo}
use Rattle.next_rules.specs.Contents.{Shard}
use Rattle.next_table.specs.Flat.{flat}
use Rattle.next_table.specs.Tables.{contents_of as table_of}
use Rattle.next_contents.specs.Owed.{debts_of}
use Rattle.next_contents.specs.declared.contents.Contents.{Contents}

abbrev pub contents_of : Contents → Shard
contents_of contents = record (table_of contents.table) { locks = flat contents.locks; debts = debts_of contents.debts }

abbrev pub place_of : Contents → PlaceNo
place_of contents = contents.debts.place
