use Rattle.std.proofs.Common.{◌≡◌, sym, ap, None}
use Rattle.std.specs.Prelude.{Some}
use Rattle.std.specs.Ordering.{nat_cmp}
use Rattle.std.specs.Cmp.Lexicographic.{slice_cmp}
use Rattle.std.specs.FinMap.{get}
use Rattle.cfs_ids.proofs.Entries.{entries-empty}
use Rattle.cfs_steps.specs.declared.contents.RowLock.{RowLock}
use Rattle.cfs_rules.specs.Locks.{first_source}
use Rattle.cfs_shard.proofs.Locking.{locks_in-flat}
use Rattle.cfs_shard.proofs.locks.first_source_in.Goals as goal

pub returns-in-Some : goal.returns-in-Some
returns-in-Some c =
    let there : get c.args.locks.now c.args.dir.0 ≡ Some c.in-Some.names.now = sym c.in-Some.ensures in
    rw (locks_in-flat c.args.locks.now c.args.dir.0, there) c.first_source.ensures

pub returns-in-None : goal.returns-in-None
returns-in-None c =
    let none : get c.args.locks.now c.args.dir.0 ≡ None = sym c.in-None.ensures in
    rw (locks_in-flat c.args.locks.now c.args.dir.0, none) (sym (ap first_source (entries-empty {X = RowLock} (slice_cmp nat_cmp))))
