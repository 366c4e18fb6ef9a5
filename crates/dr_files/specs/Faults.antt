-- How a run over a file ends early: the line of each fault, without its end, and the status.
use Rattle.std.specs.Prelude.{ℕ, List, ◌++◌, codes, decimal}
use Rattle.dr_files.specs.declared.fault.FileFault.{FileFault}
use Rattle.dr_files.specs.declared.fault.FileFault.TheVariants as fault
use Rattle.dr_files.specs.declared.streams.ReadFault.{ReadFault}
use Rattle.dr_files.specs.declared.streams.ReadFault.TheVariants as read

abbrev pub read_line : ReadFault → List ℕ
read_line read.Memory = codes "no-memory"
read_line read.Read = codes "cannot read"

abbrev pub write_line : List ℕ
write_line = codes "cannot write"

-- a record's fault names its cause
abbrev pub fault_line : {C : Type 0} → (C → List ℕ) → FileFault C → List ℕ
fault_line name_of (fault.Input k cause) = codes "record " ++ decimal k ++ codes ": " ++ name_of cause
fault_line name_of fault.Memory = read_line read.Memory
fault_line name_of fault.Read = read_line read.Read
fault_line name_of fault.Write = write_line

-- 2 where the input is at fault, 3 where there is no memory, 4 where reading or writing failed
abbrev pub fault_status : {C : Type 0} → FileFault C → ℕ
fault_status (fault.Input k cause) = 2
fault_status fault.Memory = 3
fault_status fault.Read = 4
fault_status fault.Write = 4

abbrev pub read_fault : {C : Type 0} → ReadFault → FileFault C
read_fault read.Memory = fault.Memory
read_fault read.Read = fault.Read
