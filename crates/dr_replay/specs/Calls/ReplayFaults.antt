-- How a replay ends early: the line of each fault, without its end, and the status.
use Rattle.std.specs.Prelude.{ℕ, List, ◌++◌, codes, decimal}
use Rattle.dr_workers.specs.Calls.Fault.{name_of}
use Rattle.dr_lock.specs.declared.audit_fault.AuditFault.TheVariants as audit
use Rattle.dr_files.specs.Faults.{fault_line, fault_status}
use Rattle.dr_operations.specs.Reading.{cause_name}
use Rattle.dr_replay.specs.declared.fault.ReplayFault.{ReplayFault}
use Rattle.dr_replay.specs.declared.fault.ReplayFault.TheVariants as fault

abbrev pub replay_line : ReplayFault → List ℕ
replay_line (fault.File f) = fault_line cause_name f
replay_line (fault.Worker who f) = name_of f ++ codes " " ++ decimal who
replay_line (fault.Audit (audit.ScriptDiffers p)) = codes "script-differs " ++ decimal p
replay_line (fault.Audit (audit.NotDrained h)) = codes "not-drained " ++ decimal h
replay_line (fault.Audit audit.NoMemory) = codes "no-memory"

-- that of the file's fault; 5 where a worker was refused or stopped, or an audit found a fault, and 3 where it ran out of memory
abbrev pub replay_status : ReplayFault → ℕ
replay_status (fault.File f) = fault_status f
replay_status (fault.Worker who f) = 5
replay_status (fault.Audit audit.NoMemory) = 3
replay_status (fault.Audit other) = 5
