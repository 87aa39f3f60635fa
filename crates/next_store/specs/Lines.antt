-- What a line of the table gives.
use Rattle.std.specs.FinMap.{insert, remove}
use Rattle.next_rules.specs.Contents.{Store, Served}
use Rattle.next_store.specs.declared.table.Change.{Change}
use Rattle.next_store.specs.declared.table.Change.TheVariants.{Keep, Set, Cut}
use Rattle.next_store.specs.declared.table.Line.{Line}

abbrev pub after : Store → Change → Store
after s Keep = s
after s (Set file rec) = insert s file.0 rec
after s (Cut file) = remove s file.0

abbrev pub served_by : Store → Line → Served Store
served_by s line = record { answer = line.answer; contents = after s line.change; moved = line.moved }
