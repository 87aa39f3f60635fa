-- What the machine of a call shows.
use Rattle.std.specs.Prelude.{ℕ}
use Rattle.cfs_ids.specs.declared.ids.Client.{Client}
use Rattle.cfs_steps.specs.Phases.{Phase}
use Rattle.cfs_reader.specs.ReaderViews as readers
use Rattle.cfs_writer.specs.WriterViews as writers
use Rattle.cfs_actor.specs.declared.call_machine.CallMachine.{CallMachine}
use Rattle.cfs_actor.specs.declared.call_machine.CallMachine.TheVariants.{Reader, Writer}

abbrev pub client_in : CallMachine → Client
client_in (Reader reader) = readers.client_in reader
client_in (Writer writer) = writers.client_in writer

abbrev pub index_in : CallMachine → ℕ
index_in (Reader reader) = 0
index_in (Writer writer) = writers.index_in writer

abbrev pub phase_in : CallMachine → Phase
phase_in (Reader reader) = readers.phase_in reader
phase_in (Writer writer) = writers.phase_in writer
