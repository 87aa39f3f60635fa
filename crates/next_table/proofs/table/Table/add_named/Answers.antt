use Rattle.std.proofs.Common.{◌∙◌, sym, ap}
use Rattle.std.specs.Prelude.{◌||◌}
use Rattle.next_ids.specs.Namespace.{is_node}
use Rattle.next_steps.specs.declared.contents.Row.{Row}
use Rattle.next_maps.specs.NodeSets.{has_node}
use Rattle.next_table.proofs.Listed.{list_any-flat}
use Rattle.next_table.proofs.table.Table.add_named.Goals as goal

pub returns : goal.returns
returns c x = c.in_ok-add_all.ensures x ∙ ap (λ b. has_node c.args.nodes.now x || b) (sym (list_any-flat (λ (row : Row). is_node x row.node) c.args.self.now.rows))
