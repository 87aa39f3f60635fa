use Rattle.next_tree.proofs.Kept.{kept-either}
use Rattle.next_tree.proofs.namespace.Namespace.apply.Goals as goal

pub returns-clause-whole : goal.returns-clause-whole
returns-clause-whole c = λ whole. (kept-either c.make_move.result c.args.self.now c.make_move.new.self c.args.call.now c.args.made c.args.time c.requires c.make_move.ensures.ok c.make_move.ensures.err whole).0

pub returns-clause-once : goal.returns-clause-once
returns-clause-once c = λ whole. (kept-either c.make_move.result c.args.self.now c.make_move.new.self c.args.call.now c.args.made c.args.time c.requires c.make_move.ensures.ok c.make_move.ensures.err whole).1
