use Rattle.next_maps.proofs.Entered.{has-insert}
use Rattle.next_print.proofs.named.NamedFiles.add.Goals as goal

pub returns-in-Ok : goal.returns-in-Ok
returns-in-Ok c f = rw (c.in-Ok.ensures.ok, c.in-File.is) (has-insert c.args.self.now.files c.in-File.file.0 tt f)
