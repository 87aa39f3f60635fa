use Rattle.std.proofs.Common.{◌≡◌, ◌∙◌, sym, ap, not, None}
use Rattle.std.specs.Prelude.{◌==◌, Some}
use Rattle.std.specs.Ordering.{nat_cmp}
use Rattle.std.specs.Cmp.Lexicographic.{slice_cmp}
use Rattle.std.specs.FinMap.{get, len, len-empty}
use Rattle.next_steps.specs.declared.contents.Row.{Row}
use Rattle.next_maps.specs.Nested.{names_of}
use Rattle.next_table.proofs.Within.{some-flat}
use Rattle.next_table.proofs.table.Table.has_rows.Goals as goal

pub returns-in-Some : goal.returns-in-Some
returns-in-Some c =
    let there : get c.args.self.now.rows c.args.dir.0 ≡ Some c.in-Some.names.now = sym c.in-Some.ensures in
    ap (λ n. not (n == 0)) (c.len.ensures ∙ ap (λ o. len (names_of o)) (sym there)) ∙ sym (some-flat c.args.self.now.rows c.args.dir.0)

pub returns-in-None : goal.returns-in-None
returns-in-None c =
    let none : get c.args.self.now.rows c.args.dir.0 ≡ None = sym c.in-None.ensures in
    ap (λ n. not (n == 0)) (sym (len-empty (slice_cmp nat_cmp) Row) ∙ ap (λ o. len (names_of o)) (sym none)) ∙ sym (some-flat c.args.self.now.rows c.args.dir.0)
