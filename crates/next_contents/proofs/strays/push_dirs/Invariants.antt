use Rattle.std.proofs.Common.{◌≡◌, ◌++◌}
use Rattle.std.specs.Prelude.{flat_map}
use Rattle.std.specs.FinMap.{entries}
use Rattle.next_rules.specs.Strays.{dir_of_number, debt_item}
use Rattle.next_contents.proofs.strays.push_dirs.Given as goal

abbrev pub invariant-loop-dir : goal.invariant-loop-dir
invariant-loop-dir l =
    l.list ++ flat_map (λ e. debt_item l.clients (dir_of_number e.0) e.1.owner) l.dir-iterator
    ≡ l.fn.list ++ flat_map (λ e. debt_item l.clients (dir_of_number e.0) e.1.owner) (entries l.debts)
