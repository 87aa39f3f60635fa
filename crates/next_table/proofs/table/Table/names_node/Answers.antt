use Rattle.std.proofs.Common.{◌≡◌, ◌∙◌, sym, ap, None}
use Rattle.std.specs.Prelude.{Some}
use Rattle.std.specs.List.{list_any}
use Rattle.std.specs.Ordering.{nat_cmp}
use Rattle.std.specs.Cmp.Lexicographic.{slice_cmp}
use Rattle.std.specs.FinMap.{get, entries}
use Rattle.next_ids.specs.Namespace.{is_node}
use Rattle.next_ids.proofs.Entries.{entries-empty}
use Rattle.next_steps.specs.declared.contents.Row.{Row}
use Rattle.next_maps.specs.Nested.{names_of}
use Rattle.next_table.proofs.Within.{any-flat}
use Rattle.next_table.proofs.table.Table.names_node.Goals as goal

pub returns-in-Some : goal.returns-in-Some
returns-in-Some c =
    let there : get c.args.self.now.rows c.args.dir.0 ≡ Some c.in-Some.names.now = sym c.in-Some.ensures in
    c.directory_names.ensures ∙ ap (λ o. list_any (λ e. is_node c.args.node e.1.node) (entries (names_of o))) (sym there)
    ∙ sym (any-flat (λ (row : Row). is_node c.args.node row.node) c.args.self.now.rows c.args.dir.0)

pub returns-in-None : goal.returns-in-None
returns-in-None c =
    let none : get c.args.self.now.rows c.args.dir.0 ≡ None = sym c.in-None.ensures in
    ap (list_any (λ e. is_node c.args.node e.1.node)) (sym (entries-empty {X = Row} (slice_cmp nat_cmp)))
    ∙ ap (λ o. list_any (λ e. is_node c.args.node e.1.node) (entries (names_of o))) (sym none)
    ∙ sym (any-flat (λ (row : Row). is_node c.args.node row.node) c.args.self.now.rows c.args.dir.0)
