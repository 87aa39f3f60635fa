use Rattle.std.proofs.Common.{sym, ap, ◌∙◌}
use Rattle.std.specs.Option.{option_copied}
use Rattle.next_print.specs.Trees.{directory_end}
use Rattle.next_print.proofs.tree.put_directory_at.Goals as goal

pub returns-in-None-clause-ok : goal.returns-in-None-clause-ok
unfolding directory_end
returns-in-None-clause-ok g c = rw (sym c.directory.ensures ∙ ap option_copied c.in-None.is) c.put.ensures.ok

pub returns-in-None-clause-front : goal.returns-in-None-clause-front
unfolding directory_end
returns-in-None-clause-front g c = rw (sym c.directory.ensures ∙ ap option_copied c.in-None.is) c.put.ensures.front
