use Rattle.std.proofs.Common.{◌∙◌}
use Rattle.std.specs.FinMap.{len-entries}
use Rattle.next_tree.proofs.directory.Directory.children.Goals as goal

pub returns : goal.returns
returns c = rw (← c.self.view_is) (c.len.ensures ∙ len-entries c.self.inside.names)
