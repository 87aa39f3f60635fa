use Rattle.std.proofs.Common.{◌∙◌}
use Rattle.next_tree.proofs.Making.{still_there, made-named, without_node-new}
use Rattle.next_tree.proofs.namespace.Namespace.make.Goals as goal

pub put_name-requires : goal.put_name-requires
put_name-requires c = still_there c.args.self.now (record { dirs = c.self.inside.dirs; files = c.self.inside.files }) c.args.dir c.args.name.now c.args.node c.args.time c.requires.there (c.self.view_is ∙ c.in_ok-add_node.ensures.ok)

pub returns-in-Ok-clause-ok : goal.returns-in-Ok-clause-ok
returns-in-Ok-clause-ok c = rw (c.in-Ok.ensures.ok, c.in_ok-name.ensures) (made-named c.args.self.now (record { dirs = c.self.inside.dirs; files = c.self.inside.files }) c.args.dir c.args.name.now c.args.node c.args.time c.requires.there c.requires.new (c.self.view_is ∙ c.in_ok-add_node.ensures.ok))

pub returns-in-Err-clause-err : goal.returns-in-Err-clause-err
returns-in-Err-clause-err c = rw (c.cut_node.ensures, c.in-Err.ensures.err) (without_node-new c.args.self.now (record { dirs = c.self.inside.dirs; files = c.self.inside.files }) c.args.node c.args.time c.requires.new (c.self.view_is ∙ c.in_ok-add_node.ensures.ok))
