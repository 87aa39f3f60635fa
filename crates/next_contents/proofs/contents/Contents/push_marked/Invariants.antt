use Rattle.std.proofs.Common.{◌≡◌, ◌++◌}
use Rattle.std.specs.Prelude.{flat_map}
use Rattle.next_rules.specs.Strays.{dir_of_number, marked_item, marked_dirs}
use Rattle.next_contents.specs.Shown.{contents_of}
use Rattle.next_contents.proofs.contents.Contents.push_marked.Given as goal

abbrev pub invariant-loop-dir : goal.invariant-loop-dir
invariant-loop-dir l =
    l.list ++ flat_map (λ e. marked_item l.at l.clients (dir_of_number e.0) e.1.mark) l.dir-iterator
    ≡ l.fn.list ++ marked_dirs (contents_of l.self) l.at l.clients
