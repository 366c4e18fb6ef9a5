-- What comes of a record that is not taken.
use Rattle.std.specs.Prelude.{ℕ}
use Rattle.dr_graph.specs.declared.fault.GraphFault.{GraphFault}
use Rattle.dr_graph.specs.declared.fault.GraphFault.TheVariants as refused
use Rattle.dr_files.specs.declared.fault.FileFault.{FileFault}
use Rattle.dr_files.specs.declared.fault.FileFault.TheVariants as fault
use Rattle.dr_drive.specs.declared.fault.Cause.{Cause}
use Rattle.dr_drive.specs.declared.fault.Cause.TheVariants.{Graph}
use Rattle.dr_drive.specs.declared.fault.RecordFault.{RecordFault}
use Rattle.dr_drive.specs.declared.fault.RecordFault.TheVariants as taken

-- a record's fault ends the run at that record
abbrev pub fault_at : ℕ → RecordFault → FileFault Cause
fault_at k (taken.Cause cause) = fault.Input k cause
fault_at k taken.Memory = fault.Memory

-- what a builder of graphs refuses is the record's fault, unless memory ran out
abbrev pub refused_by : GraphFault → RecordFault
refused_by refused.NoMemory = taken.Memory
refused_by other = taken.Cause (Graph other)
