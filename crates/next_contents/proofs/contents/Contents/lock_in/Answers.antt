use Rattle.std.proofs.Common.{◌∙◌, sym, ap}
use Rattle.next_rules.specs.Room.{first_job}
use Rattle.next_contents.proofs.Locking.{locks-there, locks-none}
use Rattle.next_contents.proofs.contents.Contents.lock_in.Goals as goal

pub returns-in-Some : goal.returns-in-Some
returns-in-Some c = c.first_job.ensures ∙ sym (ap first_job (locks-there c.args.self.now.locks c.args.dir.0 c.in-Some.names.now c.in-Some.ensures))

pub returns-in-None : goal.returns-in-None
returns-in-None c = sym (ap first_job (locks-none c.args.self.now.locks c.args.dir.0 c.in-None.ensures))
