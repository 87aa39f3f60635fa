use Rattle.std.proofs.Common.{◌≤◌, length, arith}
use Rattle.next_journal.proofs.Shorter.{cut-shorter}
use Rattle.next_journal.proofs.journal.Journal.take_back.Goals as goal

pub invariant_of-self : goal.invariant_of-self
invariant_of-self c =
    let shorter : length c.cut_last.new.self ≤ length c.args.self.now.log = cut-shorter c.args.self.now.log c.cut_last.new.self c.cut_last.ensures.cut c.cut_last.ensures.empty in
    let short = c.args.self.now.short in
    record { short = omega arith }
