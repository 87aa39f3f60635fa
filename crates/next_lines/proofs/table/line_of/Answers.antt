use Rattle.std.proofs.Common.{◌∙◌, ap, sym}
use Rattle.next_rules.specs.Places.{serve_shard}
use Rattle.next_contents.specs.Shown.{contents_of}
use Rattle.next_lines.proofs.table.line_of.Goals as goal

pub look-requires : goal.look-requires
look-requires c = c.requires.folds c.in-Look.dir.0

pub insert-requires : goal.insert-requires
insert-requires c = c.requires.folds c.in-Insert.dir.0

pub lock_row-requires : goal.lock_row-requires
lock_row-requires c = c.requires.folds c.in-LockRow.dir.0

pub returns-in-Settle-clause-line : goal.returns-in-Settle-clause-line
returns-in-Settle-clause-line c = c.settle.ensures.line c.args.at c.args.moment ∙ ap (serve_shard (contents_of c.args.contents.now) c.args.at c.args.moment) (sym c.in-Settle.is)

pub returns-in-TakeBack-clause-line : goal.returns-in-TakeBack-clause-line
returns-in-TakeBack-clause-line c = c.take_back.ensures.line c.args.at c.args.moment ∙ ap (serve_shard (contents_of c.args.contents.now) c.args.at c.args.moment) (sym c.in-TakeBack.is)

pub returns-in-DropOwed-clause-line : goal.returns-in-DropOwed-clause-line
returns-in-DropOwed-clause-line c = c.take_back-in-DropOwed.ensures.owed c.args.at c.args.moment ∙ ap (serve_shard (contents_of c.args.contents.now) c.args.at c.args.moment) (sym c.in-DropOwed.is)
