-- What the collector shows: how many places there are, and where it is in its round.
use Rattle.next_ids.specs.declared.counts.Counts.{Counts}
use Rattle.next_steps.specs.Rounds.{RoundPhase}
use Rattle.next_collector.specs.declared.collector.CollectorState.{CollectorState}
use Rattle.next_collector.specs.Visits.{round_phase}

abbrev pub counts_of : CollectorState → Counts
counts_of state = state.counts

abbrev pub phase_of : CollectorState → RoundPhase
phase_of state = round_phase state.visit
