-- What the state of the collector shows.
use Rattle.std.specs.Prelude.{ℕ, Bool, Option, Some, None, is_none}
use Rattle.next_ids.specs.declared.counts.Counts.{Counts}
use Rattle.next_steps.specs.Rounds.{RoundPhase, heard_round}
use Rattle.next_collector.specs.Collectors as collectors
use Rattle.next_actor.specs.declared.kept.KeptEntry.{KeptEntry}
use Rattle.next_actor.specs.declared.round_state.RoundState.{RoundState}

abbrev pub with_kept : Counts → Option KeptEntry → RoundPhase → RoundPhase
with_kept counts None phase = phase
with_kept counts (Some kept) phase = heard_round counts phase kept.entry

-- how many shards and stores it goes to
abbrev pub counts_of : RoundState → Counts
counts_of state = collectors.counts_of state.collector

-- where it is in its round, the kept entry heard
abbrev pub phase_of : RoundState → RoundPhase
phase_of state = with_kept (counts_of state) state.kept (collectors.phase_of state.collector)

abbrev pub last_of : RoundState → ℕ
last_of state = state.last

-- no entry is kept
abbrev pub is_settled : RoundState → Bool
is_settled state = is_none state.kept
