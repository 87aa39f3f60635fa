use Rattle.std.proofs.Common.{◌≡◌, List, [], ◌∷◌, map, refl, sym, Some, None}
use Rattle.std.specs.FinMap.{get}
use Rattle.next_steps.specs.declared.contents.Row.{Row}
use Rattle.std.specs.Cmp.Lexicographic.{slice_cmp}
use Rattle.std.specs.Ordering.{nat_cmp}
use Rattle.next_ids.proofs.Entries.{entries-empty}
use Rattle.next_table.proofs.Listed.{entries-names}
use Rattle.next_table.proofs.table.Table.rows_of.Goals as goal

nothing : {X Y : Type 0} (f : X → Y) (xs : List X) → map f xs ≡ [] → xs ≡ []
nothing f [] h = refl
nothing f (x ∷ xs) h = cc

pub returns-in-Some-clause-rows : goal.returns-in-Some-clause-rows
returns-in-Some-clause-rows c =
    let there : get c.args.self.now.rows c.args.dir.0 ≡ Some c.in-Some.names.now = sym c.in-Some.ensures in
    rw (entries-names (λ (row : Row). row.node) c.args.self.now.rows c.args.dir.0, there) c.listed.ensures.rows

pub returns-in-Some-clause-sure : goal.returns-in-Some-clause-sure
returns-in-Some-clause-sure c none =
    let there : get c.args.self.now.rows c.args.dir.0 ≡ Some c.in-Some.names.now = sym c.in-Some.ensures in
    c.listed.ensures.sure (nothing _ _ (rw (entries-names (λ (row : Row). row.node) c.args.self.now.rows c.args.dir.0, there) at none))

pub returns-in-None-clause-rows : goal.returns-in-None-clause-rows
returns-in-None-clause-rows c =
    let none : get c.args.self.now.rows c.args.dir.0 ≡ None = sym c.in-None.ensures in
    rw (entries-names (λ (row : Row). row.node) c.args.self.now.rows c.args.dir.0, none, entries-empty {X = Row} (slice_cmp nat_cmp)) c.new.ensures
