use Rattle.std.proofs.Common.{◌≡◌, ◌+◌, take}
use Rattle.next_script.specs.Scripts.{turn_count}
use Rattle.next_script.proofs.listed.count_with.Given as goal

abbrev pub invariant-loop-turns : goal.invariant-loop-turns
invariant-loop-turns l = l.before + turn_count (take l.turns-index l.listed) + l.room ≡ 1000000
