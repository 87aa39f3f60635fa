-- What a writer shows: its client, the index of its put's shard or store, and where its call is.
use Rattle.std.specs.Prelude.{ℕ}
use Rattle.next_ids.specs.declared.ids.Client.{Client}
use Rattle.next_steps.specs.Phases.{Phase}
use Rattle.next_writer.specs.Writers.{phase_of}
use Rattle.next_writer.specs.declared.writer.Writer.{Writer}

abbrev pub client_in : Writer → Client
client_in writer = writer.client

abbrev pub index_in : Writer → ℕ
index_in writer = writer.put_index

abbrev pub phase_in : Writer → Phase
phase_in writer = phase_of writer.state
