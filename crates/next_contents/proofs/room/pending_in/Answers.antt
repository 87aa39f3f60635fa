use Rattle.next_rules.specs.Room.{may_leave, may_come}
use Rattle.next_table.specs.Tables.{contents_of as table_of}
use Rattle.next_contents.proofs.Counting.{part-few}
use Rattle.next_contents.proofs.room.pending_in.Goals as goal

pub with_lock-pending-requires-clause-leaving : goal.with_lock-pending-requires-clause-leaving
with_lock-pending-requires-clause-leaving c =
    part-few (may_leave (table_of c.args.table.now) c.args.dir) c.args.names.now c.loop-name.pending.leaving _ c.loop-name.invariant.leaving c.iter-name-items.ensures.fits

pub with_lock-pending-requires-clause-coming : goal.with_lock-pending-requires-clause-coming
with_lock-pending-requires-clause-coming c =
    part-few may_come c.args.names.now c.loop-name.pending.coming _ c.loop-name.invariant.coming c.iter-name-items.ensures.fits

pub returns-clause-fits : goal.returns-clause-fits
returns-clause-fits c = part-few may_come c.args.names.now c.loop-name.pending.coming _ c.loop-name.invariant.coming c.iter-name-items.ensures.fits
