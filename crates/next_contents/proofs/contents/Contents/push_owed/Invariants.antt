use Rattle.std.proofs.Common.{◌≡◌, ◌++◌}
use Rattle.std.specs.Prelude.{flat_map}
use Rattle.next_rules.specs.Strays.{dir_of_number, home_in, owed_item, owed_dirs}
use Rattle.next_contents.specs.Shown.{contents_of}
use Rattle.next_contents.proofs.contents.Contents.push_owed.Given as goal

abbrev pub invariant-loop-dir : goal.invariant-loop-dir
invariant-loop-dir l =
    l.list ++ flat_map (λ e. owed_item l.at l.clients (dir_of_number e.0) e.1.owner (home_in e.1.back)) l.dir-iterator
    ≡ l.fn.list ++ owed_dirs (contents_of l.self) l.at l.clients
