use Rattle.std.proofs.Common.{sym, ◌∙◌, ap}
use Rattle.next_ids.specs.Namespace.{Namespace, name_set}
use Rattle.next_tree.proofs.Moving.{still-source, renamed-steps}
use Rattle.next_tree.proofs.namespace.Namespace.rename.Goals as goal

pub cut_name-requires : goal.cut_name-requires
cut_name-requires c =
    let set = c.in_ok-put_name.ensures.ok ∙ ap (λ (n : Namespace). name_set n.dirs c.args.to_dir c.in_ok-copy.field-0 c.unwrap-node.result c.args.time) c.self.view_is in
    still-source c.args.self.now.dirs c.put_name.new.dirs c.args.dir c.args.name.now c.args.to_dir c.in_ok-copy.field-0 c.unwrap-node.result c.unwrap-node.result c.args.time (sym c.node_at.ensures ∙ c.unwrap-node.ensures) set

pub returns-clause-ok : goal.returns-clause-ok
returns-clause-ok c =
    let set = c.in_ok-put_name.ensures.ok ∙ ap (λ (n : Namespace). name_set n.dirs c.args.to_dir c.in_ok-copy.field-0 c.unwrap-node.result c.args.time) c.self.view_is ∙ ap (λ name. name_set c.args.self.now.dirs c.args.to_dir name c.unwrap-node.result c.args.time) c.in_ok-copy.ensures in
    let dirs = renamed-steps c.args.self.now c.args.dir c.args.name.now c.args.to_dir c.args.to_name.now c.args.time c.unwrap-node.result c.node_at-replaced.result c.put_name.new.dirs c.cut_name.new.dirs c.cut_dir.new.dirs c.requires (sym c.node_at.ensures ∙ c.unwrap-node.ensures) c.node_at-replaced.ensures set c.cut_name.ensures c.cut_dir.ensures in
    let files = ap (λ (n : Namespace). n.files) c.self.view_is in
    λ i. record { dirs = dirs i; files = files i }
