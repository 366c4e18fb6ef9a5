-- How the program ends early: its line, without its end, and the status.
use Rattle.std.specs.Prelude.{ℕ, List, codes, Option, None, Some, Result, Ok, Err}
use Rattle.dr_check.specs.Verdict.{check_line, check_status}
use Rattle.dr_command_line.specs.LineFaults.{line_status, line_text}
use Rattle.dr_drive.specs.Meaning.Causes.{cause_name}
use Rattle.dr_drive.specs.declared.fault.Cause.{Cause}
use Rattle.dr_files.specs.Faults.{fault_line, fault_status}
use Rattle.dr_files.specs.declared.fault.FileFault.{FileFault}
use Rattle.dr_files.specs.declared.fault.FileFault.TheVariants as file
use Rattle.dr_ledger.specs.Faults.{ledger_line, ledger_status, start_line, start_status}
use Rattle.dr_replay.specs.Calls.ReplayFaults.{replay_line, replay_status}
use Rattle.disruptor.specs.declared.Fault.{Fault}
use Rattle.disruptor.specs.declared.Fault.TheVariants as ended

abbrev pub program_line : Fault → List ℕ
program_line (ended.Line refused) = line_text refused
program_line (ended.Check fault) = check_line fault
program_line (ended.Drive fault) = fault_line cause_name fault
program_line (ended.Replay fault) = replay_line fault
program_line (ended.Start fault) = start_line fault
program_line (ended.Ledger fault) = ledger_line fault
program_line ended.Memory = codes "no-memory"
program_line ended.Read = codes "cannot read"
program_line ended.Write = codes "cannot write"

-- that of the command line's or the tool's fault; 3 where there is no memory, 4 where reading or writing failed
abbrev pub program_status : Fault → ℕ
program_status (ended.Line refused) = line_status refused
program_status (ended.Check fault) = check_status fault
program_status (ended.Drive fault) = fault_status fault
program_status (ended.Replay fault) = replay_status fault
program_status (ended.Start fault) = start_status fault
program_status (ended.Ledger fault) = ledger_status fault
program_status ended.Memory = 3
program_status ended.Read = 4
program_status ended.Write = 4

-- what comes of a fault of `show`: a page of a file at fault is whole, and its fault is told with it; any other fault leaves no page
abbrev pub told_fault : FileFault Cause → Result (Option Fault) Fault
told_fault (file.Input k cause) = Ok (Some (ended.Drive (file.Input k cause)))
told_fault file.Memory = Err (ended.Drive file.Memory)
told_fault file.Read = Err (ended.Drive file.Read)
told_fault file.Write = Err (ended.Drive file.Write)

-- what comes of a run of `show`: without a fault its page is whole, and nothing is told with it
abbrev pub told_of : Result (Unit {0}) (FileFault Cause) → Result (Option Fault) Fault
told_of (Ok done) = Ok None
told_of (Err fault) = told_fault fault

-- how a run ends, whose output is whole, with a fault to be told or without one, or is not whole: well only without any fault
abbrev pub end_of : Result (Option Fault) Fault → Result (Unit {0}) Fault
end_of (Ok None) = Ok tt
end_of (Ok (Some fault)) = Err fault
end_of (Err fault) = Err fault
