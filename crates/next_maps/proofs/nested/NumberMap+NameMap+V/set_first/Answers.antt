use Rattle.std.proofs.Common.{◌∙◌, ap}
use Rattle.std.specs.FinMap.{get, get-empty}
use Rattle.std.specs.Ordering.{nat_cmp}
use Rattle.std.specs.Cmp.Lexicographic.{slice_cmp}
use Rattle.next_maps.proofs.Seen.{is_lent}
use Rattle.next_ids.proofs.MapLemmas.{get-insert_here}
use Rattle.next_maps.proofs.Inner.{here-empty, with_name-first, unchanged-first}
use Rattle.next_maps.proofs.nested.NumberMap+NameMap+V.set_first.Goals as goal

pub unwrap-requires : goal.unwrap-requires
unwrap-requires g c = is_lent c.get_mut.result c.new.result (c.get_mut.ensures.value ∙ ap (λ m. get m c.args.key) (rw c.in-Ok.is at c.set.ensures.ok) ∙ get-insert_here c.args.self.now c.args.key c.new.result)

pub returns-in-Ok-set-clause-ok : goal.returns-in-Ok-set-clause-ok
returns-in-Ok-set-clause-ok g c =
    let first = rw (c.in-Ok.is, c.new.ensures) at c.set.ensures.ok in
    let written = rw c.unwrap.ensures at (c.get_mut.follows.holds c.set-2.new.self) in
    with_name-first c.args.self.now c.set.new.self _ c.args.key c.unwrap.result.now c.set-2.new.self c.requires first written c.args.name c.args.value (rw c.unwrap.ensures at c.get_mut.ensures.value) (rw c.in-Ok-set.is at c.set-2.ensures.ok)

pub returns-in-Ok-set-clause-before : goal.returns-in-Ok-set-clause-before
returns-in-Ok-set-clause-before g c =
    let first = rw (c.in-Ok.is, c.new.ensures) at c.set.ensures.ok in
    let written = rw c.unwrap.ensures at (c.get_mut.follows.holds c.set-2.new.self) in
    let here = here-empty c.args.self.now c.set.new.self _ c.args.key c.unwrap.result.now c.set-2.new.self c.requires first written (rw c.unwrap.ensures at c.get_mut.ensures.value) in
    (rw c.in-Ok-set.is at c.set-2.ensures.before) ∙ ap (λ names. get names c.args.name) here ∙ get-empty (slice_cmp nat_cmp) c.args.name

pub returns-in-Err-clause-err : goal.returns-in-Err-clause-err
returns-in-Err-clause-err g c =
    let first = rw (c.in-Ok.is, c.new.ensures) at c.set.ensures.ok in
    let written = rw c.unwrap.ensures at (c.get_mut.follows.holds c.set-2.new.self) in
    c.cut.ensures.map ∙ unchanged-first c.args.self.now c.set.new.self _ c.args.key c.unwrap.result.now c.set-2.new.self c.requires first written
