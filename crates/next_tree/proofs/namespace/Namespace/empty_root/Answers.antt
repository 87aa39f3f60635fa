use Rattle.next_laws_namespace.proofs.Whole.{empty_root-whole, empty_root-once}
use Rattle.next_tree.proofs.namespace.Namespace.empty_root.Goals as goal

pub returns-in-Ok-clause-whole : goal.returns-in-Ok-clause-whole
returns-in-Ok-clause-whole c = let dirs = c.in-Ok.ensures.ok in rw (c.in-Ok.ensures.ok, c.new-in-Ok.ensures, c.new.ensures, c.new-dirs.ensures) empty_root-whole

pub returns-in-Ok-clause-once : goal.returns-in-Ok-clause-once
returns-in-Ok-clause-once c = rw (c.in-Ok.ensures.ok, c.new.ensures, c.new-dirs.ensures) empty_root-once
