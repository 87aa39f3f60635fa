use Rattle.std.proofs.Common.{refl, append_assoc}
use Rattle.next_script.proofs.TurnCounts.{client_turns-client, client_turns-other}
use Rattle.next_script.proofs.listed.add_turns.Goals as goal
use Rattle.next_script.proofs.listed.add_turns.Goals.{in-Client+in-Ok, in_default}

pub loop-turns-preserved : goal.loop-turns-preserved
loop-turns-preserved c = elim c.match-turns.branch [
  | in-Client+in-Ok w ↦ (
      let more = client_turns-client c.args.listed.now c.loop-turns.turns-index _ w.in-Client.client c.loop-turns-test.true w.in-Client.is in
      let pushed = w.in-Ok.ensures.ok in
      rw (more, w.list-is, pushed, c.loop-turns.invariant, append_assoc) refl)
  | in_default w ↦ (
      let more = client_turns-other c.args.listed.now c.loop-turns.turns-index _ c.loop-turns-test.true w.in_default.not-Client in
      rw (more, w.list-is) c.loop-turns.invariant)
]
