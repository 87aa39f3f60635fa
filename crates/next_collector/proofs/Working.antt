-- What the round makes of an answer about a stray.
use Rattle.std.proofs.Common.{◌≡◌, List, arith}
use Rattle.std.specs.Prelude.{true, Option, None}
use Rattle.next_ids.specs.declared.counts.Counts.{Counts}
use Rattle.next_steps.specs.declared.answer.Answer.{Answer}
use Rattle.next_steps.specs.declared.strays.Stray.{Stray}
use Rattle.next_steps.specs.Rounds.{Visit, next_item, heard_round_as}
use Rattle.next_collector.specs.declared.work.Work.{Work}
use Rattle.next_collector.specs.Works.{suits, working, work_after}

-- a stray that is done makes room for those after it
pub heard-done : (counts : Counts) (v : Visit) (stray : Option Stray) (work : Work) (rest : List Stray) (a : Answer)
    → suits stray work ≡ true → work_after work a ≡ None
    → next_item counts v rest ≡ heard_round_as counts (working v stray work rest) a
heard-done counts v stray work rest a suited done = grind arith
