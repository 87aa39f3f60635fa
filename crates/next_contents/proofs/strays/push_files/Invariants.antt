use Rattle.std.proofs.Common.{◌≡◌, ◌++◌}
use Rattle.std.specs.Prelude.{flat_map}
use Rattle.std.specs.FinMap.{entries}
use Rattle.next_rules.specs.Strays.{file_of_number, debt_item}
use Rattle.next_contents.proofs.strays.push_files.Given as goal

abbrev pub invariant-loop-file : goal.invariant-loop-file
invariant-loop-file l =
    l.list ++ flat_map (λ e. debt_item l.clients (file_of_number e.0) e.1.owner) l.file-iterator
    ≡ l.fn.list ++ flat_map (λ e. debt_item l.clients (file_of_number e.0) e.1.owner) (entries l.debts)
