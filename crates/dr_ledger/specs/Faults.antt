-- How a ledger ends early: the line of each fault, without its end, and the status.
use Rattle.std.specs.Prelude.{ℕ, List, ◌++◌, codes, decimal}
use Rattle.dr_files.specs.declared.fault.FileFault.{FileFault}
use Rattle.dr_files.specs.declared.fault.FileFault.TheVariants as file
use Rattle.dr_journal.specs.declared.fault.JournalFault.{JournalFault}
use Rattle.dr_journal.specs.declared.fault.JournalFault.TheVariants.{NoMemory, Failed, Full}
use Rattle.dr_journal.specs.Calls.Faults.{open_name_of}
use Rattle.dr_journal.specs.declared.fault.OpenFault.{OpenFault}
use Rattle.dr_journal.specs.declared.fault.OpenFault.TheVariants as opening
use Rattle.dr_operations.specs.declared.cause.Cause.{Cause}
use Rattle.dr_ledger.specs.declared.fault.LedgerFault.{LedgerFault}
use Rattle.dr_ledger.specs.declared.fault.LedgerFault.TheVariants as fault
use Rattle.dr_ledger.specs.declared.start_fault.StartFault.{StartFault}
use Rattle.dr_ledger.specs.declared.start_fault.StartFault.TheVariants as start

abbrev pub ledger_line : LedgerFault → List ℕ
ledger_line (fault.BadRecord k) = codes "record " ++ decimal k ++ codes ": bad record"
ledger_line fault.Memory = codes "no-memory"
ledger_line fault.Read = codes "cannot read"
ledger_line fault.Write = codes "cannot write"
ledger_line fault.Disk = codes "cannot write"
ledger_line fault.Full = codes "cannot write"

-- 2 where the input is at fault, 3 where there is no memory, 4 where reading or writing failed
abbrev pub ledger_status : LedgerFault → ℕ
ledger_status (fault.BadRecord k) = 2
ledger_status fault.Memory = 3
ledger_status other = 4

abbrev pub fault_of_journal : JournalFault → LedgerFault
fault_of_journal NoMemory = fault.Memory
fault_of_journal Failed = fault.Disk
fault_of_journal Full = fault.Full

abbrev pub fault_of_file : FileFault Cause → LedgerFault
fault_of_file (file.Input k cause) = fault.BadRecord k
fault_of_file file.Memory = fault.Memory
fault_of_file file.Read = fault.Read
fault_of_file file.Write = fault.Write

-- 2 where the file is none of a ledger's, 3 where there is no memory, 4 where it cannot be opened
abbrev pub open_status : OpenFault → ℕ
open_status opening.NotAJournal = 2
open_status opening.InUse = 4
open_status (opening.Journal NoMemory) = 3
open_status (opening.Journal other) = 4

abbrev pub start_line : StartFault → List ℕ
start_line (start.Journal fault) = codes "journal: " ++ open_name_of fault
start_line (start.Replica fault) = codes "replica: " ++ open_name_of fault
start_line start.Differs = codes "replica: differs"
start_line (start.Ledger fault) = ledger_line fault

abbrev pub start_status : StartFault → ℕ
start_status (start.Journal fault) = open_status fault
start_status (start.Replica fault) = open_status fault
start_status start.Differs = 2
start_status (start.Ledger fault) = ledger_status fault
