use Rattle.next_core.proofs.service.Core.turn.Goals as goal

pub returns-clause-full : goal.returns-clause-full
returns-clause-full c = λ place e.
    let it = c.turn_among.ensures.full place e in
    record { ask = it.0; next = it.1; there = it.2; full = it.3 }
