use Rattle.std.proofs.Common.{refl}
use Rattle.next_collector.proofs.visit.Visit.ask.Goals as goal

pub returns-in-Working : goal.returns-in-Working
returns-in-Working c =
    rw c.in-Working.is
    (c.ask.ensures (record { clients = c.args.self.now.clients; place = c.args.self.now.place.0 }) refl)
