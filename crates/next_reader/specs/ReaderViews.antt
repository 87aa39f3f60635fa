-- What a reader shows: its client and where its call is.
use Rattle.next_ids.specs.declared.ids.Client.{Client}
use Rattle.next_steps.specs.Phases.{Phase}
use Rattle.next_reader.specs.Readers.{phase_of}
use Rattle.next_reader.specs.declared.reader.Reader.{Reader}

abbrev pub client_in : Reader → Client
client_in reader = reader.client

abbrev pub phase_in : Reader → Phase
phase_in reader = phase_of reader.state
