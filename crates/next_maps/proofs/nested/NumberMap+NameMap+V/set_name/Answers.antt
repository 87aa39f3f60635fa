use Rattle.std.proofs.Common.{sym, arith}
use Rattle.next_maps.proofs.Inner.{with_name-there, unchanged-there, no_name}
use Rattle.next_maps.proofs.nested.NumberMap+NameMap+V.set_name.Goals as goal

pub returns-in-Some-clause-ok : goal.returns-in-Some-clause-ok
returns-in-Some-clause-ok g c =
    with_name-there c.args.self.now c.args.key c.args.name c.set.result _ _ _ _ (rw c.in-Some.is at c.get_mut.ensures.value) (rw c.in-Some.is at (c.get_mut.follows.holds c.set.new.self)) c.set.ensures.ok

pub returns-in-Some-clause-err : goal.returns-in-Some-clause-err
returns-in-Some-clause-err g c =
    unchanged-there c.args.self.now c.args.key c.args.name c.set.result _ _ _ (rw c.in-Some.is at c.get_mut.ensures.value) (rw c.in-Some.is at (c.get_mut.follows.holds c.set.new.self)) c.set.ensures.err

pub returns-in-None-clause-before : goal.returns-in-None-clause-before
returns-in-None-clause-before g c = rw (no_name c.args.self.now c.args.key c.args.name (sym (rw c.in-None.is at c.get_mut.ensures.value))) c.set_first.ensures.before

pub returns-in-None-clause-there : goal.returns-in-None-clause-there
returns-in-None-clause-there g c = λ there. let none = no_name c.args.self.now c.args.key c.args.name (sym (rw c.in-None.is at c.get_mut.ensures.value)) in grind (arith, rw none at there)
