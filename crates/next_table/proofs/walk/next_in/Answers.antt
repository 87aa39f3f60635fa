use Rattle.std.proofs.Common.{◌∙◌}
use Rattle.next_table.proofs.Walked.{first-of_all}
use Rattle.next_table.proofs.walk.next_in.Goals as goal
use Rattle.next_table.proofs.walk.next_in.Goals.{in-Some, in-None}

pub returns-in-Some-found : goal.returns-in-Some-found
returns-in-Some-found g c = elim c.match-after.branch [
  | in-Some w ↦ let shown = rw (← w.found-is, c.in-Some-found.is) at w.above_in-found.ensures in rw w.in-Some.is shown
  | in-None w ↦ let shown = rw (← w.found-is, c.in-Some-found.is) at w.first_in-found.ensures in rw w.in-None.is (shown ∙ first-of_all c.args.maps.now)
]

pub returns-in-None-found : goal.returns-in-None-found
returns-in-None-found g c = elim c.match-after.branch [
  | in-Some w ↦ let shown = rw (← w.found-is, c.in-None-found.is) at w.above_in-found.ensures in rw w.in-Some.is shown
  | in-None w ↦ let shown = rw (← w.found-is, c.in-None-found.is) at w.first_in-found.ensures in rw w.in-None.is (shown ∙ first-of_all c.args.maps.now)
]
