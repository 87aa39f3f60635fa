use Rattle.std.proofs.Common.{◌∙◌, sym, ap}
use Rattle.next_rules.specs.Locks.{first_other}
use Rattle.next_contents.proofs.Locking.{locks-there, locks-none}
use Rattle.next_contents.proofs.contents.Contents.other_in.Goals as goal

pub returns-in-Some : goal.returns-in-Some
returns-in-Some c =
    rw c.in-Replacing.is (c.first_other.ensures ∙ sym (ap (first_other c.args.own) (locks-there c.args.self.now.locks c.args.dir.0 c.in-Some.names.now c.in-Some.ensures)))

pub returns-in-None : goal.returns-in-None
returns-in-None c =
    rw c.in-Replacing.is (sym (ap (first_other c.args.own) (locks-none c.args.self.now.locks c.args.dir.0 c.in-None.ensures)))
