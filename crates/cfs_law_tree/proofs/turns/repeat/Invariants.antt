use Rattle.std.proofs.Common.{◌≡◌, ◌≤◌, ◌+◌, map}
use Rattle.std.specs.Prelude.{replicate}
use Rattle.cfs_rules.specs.Worlds.{run_of}
use Rattle.cfs_core.specs.Clients.{number_in}
use Rattle.cfs_core.specs.Cores.{counts_of, world_of, members_of, steps_of}
use Rattle.cfs_law_tree.proofs.turns.repeat.Given as goal

abbrev pub invariant-loop-made : goal.invariant-loop-made
invariant-loop-made l = record {
  so_far : world_of l.core ≡ run_of (counts_of l.fn.core) (map number_in (replicate l.made l.actor)) (world_of l.fn.core);
  steps : steps_of l.core ≤ steps_of l.fn.core + l.made;
  members : members_of l.core ≡ members_of l.fn.core;
  places : counts_of l.core ≡ counts_of l.fn.core;
}
