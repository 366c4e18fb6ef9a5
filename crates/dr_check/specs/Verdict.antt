-- What a check answers of a file: the fault of what the file says, or how many records it has.
use Rattle.std.specs.Prelude.{◌≡◌, ◌+◌, ℕ, Result, Ok, Err, List, ◌++◌, None, Some, length, codes, option_map, string_bytes}
use Rattle.dr_files.specs.Faults.{fault_line, read_line}
use Rattle.dr_files.specs.Outcome.{Fault, Said}
use Rattle.dr_files.specs.declared.fault.FileFault.TheVariants as file
use Rattle.dr_files.specs.declared.streams.ReadFault.{ReadFault}
use Rattle.dr_files.specs.declared.streams.ReadFault.TheVariants as read
use Rattle.dr_records.specs.Records.{Record}
use Rattle.dr_drive.specs.Meaning.Causes.{cause_name as drive_name}
use Rattle.dr_drive.specs.declared.fault.Cause.{Cause as DriveCause}
use Rattle.dr_operations.specs.Reading.{cause_name as replay_name}
use Rattle.dr_operations.specs.declared.cause.Cause.{Cause as ReplayCause}
use Rattle.dr_check.specs.declared.fault.Cause.{Cause}
use Rattle.dr_check.specs.declared.fault.Cause.TheVariants as tool
use Rattle.dr_check.specs.declared.fault.CheckFault.{CheckFault}
use Rattle.dr_check.specs.declared.fault.CheckFault.TheVariants as check

-- the causes of the two tools

abbrev pub drive_cause : DriveCause → Cause
drive_cause cause = tool.Drive cause

abbrev pub replay_cause : ReplayCause → Cause
replay_cause cause = tool.Replay cause

abbrev pub cause_name : Cause → List ℕ
cause_name (tool.Drive cause) = drive_name cause
cause_name (tool.Replay cause) = replay_name cause

-- 2 where a record is at fault, 3 where there is no memory, 4 where a read failed
abbrev pub check_status : CheckFault → ℕ
check_status (check.Record k cause told) = 2
check_status check.Memory = 3
check_status check.Read = 4

-- the line of the tool's own fault, and for a record below it where the fault stands
abbrev pub check_line : CheckFault → List ℕ
check_line (check.Record k cause told) = fault_line cause_name (file.Input k cause) ++ codes "\n" ++ string_bytes told
check_line check.Memory = read_line read.Memory
check_line check.Read = read_line read.Read

abbrev pub unread : ReadFault → CheckFault
unread read.Memory = check.Memory
unread read.Read = check.Read

-- a record at fault by a tool's cause
abbrev pub told_as : {C : Type 0} → (C → Cause) → Fault C → Fault Cause
told_as cause_of fault = record { k = fault.k; cause = cause_of fault.cause }

-- of a file that says this, by causes of its tool: its fault is the one that is answered; of memory and of a failed read nothing is said
abbrev pub Finds : {C : Type 0} → (C → Cause) → CheckFault → Said C → Type 0
Finds cause_of (check.Record k cause told) said = option_map (told_as cause_of) said.fault ≡ Some (record { k = k; cause = cause })
Finds cause_of other said = Unit {0}

-- of a file that says this, and has these records: it has no fault, and so many records, or it has the fault that is answered
abbrev pub Verdict : {C : Type 0} → (C → Cause) → Result ℕ CheckFault → Said C → List Record → Type 0
Verdict cause_of (Ok count) said records = (said.fault ≡ None) × (count ≡ length records)
Verdict cause_of (Err e) said records = Finds cause_of e said

-- a failed read is answered where one read failed, and nowhere else
abbrev pub FindingCounts : CheckFault → ℕ → ℕ → Type 0
FindingCounts check.Read reads reads2 = reads2 ≡ reads + 1
FindingCounts other reads reads2 = reads2 ≡ reads

abbrev pub CheckCounts : {A : Type 0} → Result A CheckFault → ℕ → ℕ → Type 0
CheckCounts (Ok done) reads reads2 = reads2 ≡ reads
CheckCounts (Err e) reads reads2 = FindingCounts e reads reads2
