use Rattle.std.proofs.Common.{◌≡◌, ◌≤◌, ◌+◌, map, take}
use Rattle.cfs_rules.specs.Worlds.{run_of}
use Rattle.cfs_setup.specs.Lists.{turns_in, count_in}
use Rattle.cfs_core.specs.Clients.{number_in}
use Rattle.cfs_core.specs.Cores.{counts_of, world_of, members_of, steps_of}
use Rattle.cfs_law_tree.proofs.turns.drive.Given as goal

abbrev pub invariant-loop-listed : goal.invariant-loop-listed
invariant-loop-listed l = record {
  so_far : world_of l.core ≡ run_of (counts_of l.fn.core) (map number_in (turns_in (take l.listed-index l.turns))) (world_of l.fn.core);
  steps : steps_of l.core ≤ steps_of l.fn.core + count_in (take l.listed-index l.turns);
  members : members_of l.core ≡ members_of l.fn.core;
  places : counts_of l.core ≡ counts_of l.fn.core;
}
