use Rattle.std.proofs.Common.{◌≡◌, ◌++◌, take}
use Rattle.next_script.specs.Scripts.{client_turns}
use Rattle.next_script.proofs.listed.add_turns.Given as goal

abbrev pub invariant-loop-turns : goal.invariant-loop-turns
invariant-loop-turns l = l.list ≡ l.fn.list ++ client_turns (take l.turns-index l.listed)
