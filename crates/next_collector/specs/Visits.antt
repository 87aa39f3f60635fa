-- A visit as a phase of the round.
use Rattle.std.specs.Prelude.{Option, Some, None}
use Rattle.next_steps.specs.Rounds as round
use Rattle.next_steps.specs.Rounds.{RoundPhase}
use Rattle.next_collector.specs.declared.visit.Stage.{Stage}
use Rattle.next_collector.specs.declared.visit.Stage.TheVariants.{Listing, Working, Merging}
use Rattle.next_collector.specs.declared.visit.Visit.{Visit}
use Rattle.next_collector.specs.Stages.{item_phase}

abbrev pub stage_phase : round.Visit → Stage → RoundPhase
stage_phase v Listing = round.Listing v
stage_phase v (Working items) = item_phase v items
stage_phase v Merging = round.Merging v

abbrev pub visit_phase : Visit → RoundPhase
visit_phase visit = stage_phase (record { clients = visit.clients; place = visit.place.0 }) visit.stage

-- no place is visited before the clients that stopped are known
abbrev pub round_phase : Option Visit → RoundPhase
round_phase None = round.Starting
round_phase (Some visit) = visit_phase visit
