use Rattle.std.proofs.Common.{sym, ◌∙◌}
use Rattle.next_grammar.proofs.Components.{component-allowed}
use Rattle.next_grammar.proofs.paths.add_component.Goals as goal

pub from_bytes-requires : goal.from_bytes-requires
from_bytes-requires c = component-allowed c.args.name.now (sym c.good_component.ensures ∙ c.if-not-good_component.false)
