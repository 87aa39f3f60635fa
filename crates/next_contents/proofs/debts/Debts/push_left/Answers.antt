use Rattle.std.proofs.Common.{◌∙◌, ◌++◌, sym, ap, append_assoc, List}
use Rattle.std.specs.Prelude.{flat_map}
use Rattle.std.specs.FinMap.{entries}
use Rattle.next_steps.specs.declared.strays.Stray.{Stray}
use Rattle.next_rules.specs.Contents.{node_of_key}
use Rattle.next_rules.specs.Strays.{debt_item, file_of_number, dir_of_number}
use Rattle.next_contents.proofs.OwingWalk.{flat_map-owed}
use Rattle.next_contents.proofs.debts.Debts.push_left.Goals as goal

pub returns : goal.returns
returns c =
    let files : List Stray = flat_map (λ e. debt_item c.args.clients.now (file_of_number e.0) e.1.owner) (entries c.args.self.now.files) in
    let dirs : List Stray = flat_map (λ e. debt_item c.args.clients.now (dir_of_number e.0) e.1.owner) (entries c.args.self.now.dirs) in
    c.in_ok-push_dirs.ensures
    ∙ ap (λ (list : List Stray). list ++ dirs) c.in_ok-push_files.ensures
    ∙ append_assoc c.args.list.now files dirs
    ∙ ap (λ (rest : List Stray). c.args.list.now ++ rest)
    (sym (flat_map-owed (λ e. debt_item c.args.clients.now (node_of_key e.0) e.1.owner) c.args.self.now.place.0 c.args.self.now.files c.args.self.now.dirs))
