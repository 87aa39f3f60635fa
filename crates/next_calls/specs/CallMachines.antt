-- What the machine of a call shows.
use Rattle.std.specs.Prelude.{ℕ}
use Rattle.next_ids.specs.declared.ids.Client.{Client}
use Rattle.next_steps.specs.Phases.{Phase}
use Rattle.next_reader.specs.ReaderViews as readers
use Rattle.next_writer.specs.WriterViews as writers
use Rattle.next_remover.specs.RemoverViews as removers
use Rattle.next_calls.specs.declared.call_machine.CallMachine.{CallMachine}
use Rattle.next_calls.specs.declared.call_machine.CallMachine.TheVariants.{Reader, Writer, Remover}

abbrev pub client_in : CallMachine → Client
client_in (Reader reader) = readers.client_in reader
client_in (Writer writer) = writers.client_in writer
client_in (Remover remover) = removers.client_in remover

abbrev pub index_in : CallMachine → ℕ
index_in (Reader reader) = 0
index_in (Writer writer) = writers.index_in writer
index_in (Remover remover) = 0

abbrev pub phase_in : CallMachine → Phase
phase_in (Reader reader) = readers.phase_in reader
phase_in (Writer writer) = writers.phase_in writer
phase_in (Remover remover) = removers.phase_in remover
