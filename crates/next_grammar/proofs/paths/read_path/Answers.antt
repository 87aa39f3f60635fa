use Rattle.std.proofs.Common.{◌≡◌, ◌≢◌, ◌≤◌, get_or, length, arith, sym}
use Rattle.std.proofs.lemmas.Grind.{common_steps}
use Rattle.next_grammar.proofs.Components.{path_of-other, path_of-slash}
use Rattle.next_grammar.proofs.paths.read_path.Goals as goal
use Rattle.next_grammar.proofs.paths.read_path.Goals.{in_default-via-then-text-lt1, in_default-via-else-text-lt1+in_default-1}

pub returns-in-47 : goal.returns-in-47
returns-in-47 c =
    let slash : get_or c.args.text.now 0 0 ≡ 47 = grind (arith, common_steps) in
    let few : length c.args.text.now ≤ 1024 = omega arith in
    rw (path_of-slash c.args.text.now (omega arith) slash few) c.read_components.ensures

pub returns-in_default : goal.returns-in_default
returns-in_default c = elim c.in_default.branch [
  | in_default-via-then-text-lt1 w ↦
      let other : get_or c.args.text.now 0 0 ≢ 47 = grind (arith, common_steps) in
      sym (path_of-other c.args.text.now other (omega arith))
  | in_default-via-else-text-lt1+in_default-1 w ↦
      let other : get_or c.args.text.now 0 0 ≢ 47 = grind (arith, common_steps) in
      sym (path_of-other c.args.text.now other (omega arith))
]
