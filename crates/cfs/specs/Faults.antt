-- Which line is written for a status.
use Rattle.std.specs.Prelude.{Option, Some, None}
use Rattle.cfs_run.specs.declared.status.Status.{Status}
use Rattle.cfs_run.specs.declared.status.Status.TheVariants as status
use Rattle.cfs.specs.declared.fault.Fault.{Fault}
use Rattle.cfs.specs.declared.fault.Fault.TheVariants as faults

-- one line for each status but those of a verdict and of a text that was written
abbrev pub fault_of : Status → Option Fault
fault_of status.Done = None
fault_of (status.No line) = None
fault_of (status.Usage word) = Some (faults.Usage word)
fault_of (status.Script line fault) = Some (faults.Script line fault)
fault_of status.ReadFault = Some faults.Read
fault_of status.WriteFault = Some faults.Write
fault_of status.NoMemory = Some faults.NoMemory
fault_of (status.LogFull place) = Some (faults.LogFull place.0)
