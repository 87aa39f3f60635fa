-- What a remover shows: its client and where its call is.
use Rattle.next_ids.specs.declared.ids.Client.{Client}
use Rattle.next_steps.specs.Phases.{Phase}
use Rattle.next_remover.specs.Removers.{phase_of}
use Rattle.next_remover.specs.declared.remover.Remover.{Remover}

abbrev pub client_in : Remover → Client
client_in remover = remover.client

abbrev pub phase_in : Remover → Phase
phase_in remover = phase_of remover.state
