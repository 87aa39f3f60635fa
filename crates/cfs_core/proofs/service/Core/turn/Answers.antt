use Rattle.cfs_core.proofs.service.Core.turn.Goals as goal

pub returns-clause-full : goal.returns-clause-full
returns-clause-full c = λ place e.
    let full = (rw c.client_in-client.ensures at c.turn_among.ensures.full) place e in
    record { ask = full.0; next = full.1; there = full.2; full = full.3 }

pub returns-clause-room : goal.returns-clause-room
returns-clause-room c = rw c.client_in-client.ensures at c.turn_among.ensures.room

pub returns-clause-held : goal.returns-clause-held
returns-clause-held c = rw c.client_in-client.ensures at c.turn_among.ensures.held
