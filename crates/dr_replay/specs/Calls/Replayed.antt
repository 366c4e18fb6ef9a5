-- What a replay writes, and what it answers.
use Rattle.std.specs.Prelude.{◌≡◌, ℕ, Result, Ok, Err, List, Option, None}
use Rattle.std.specs.Io.KnownBytes.{Appends, Keeps}
use Rattle.dr_seq.specs.declared.event.Event.{Event}
use Rattle.dr_meaning.specs.Meaning.Machine.{handlers}
use Rattle.dr_lock.specs.Meaning.Audit.{IsAudited}
use Rattle.dr_lock.specs.Meaning.History.{History, transcript}
use Rattle.dr_accounts.specs.Report.{report_of}
use Rattle.dr_files.specs.Lines.{joined}
use Rattle.dr_files.specs.Outcome.{AppendsFront, FaultCounts, FaultKeeps, FaultWrites, Said}
use Rattle.dr_files.specs.declared.fault.FileFault.TheVariants as file
use Rattle.dr_accounts.specs.ReplayText.{reported}
use Rattle.dr_replay.specs.Meaning.Exchange.{IsOfReplay}
use Rattle.dr_replay.specs.Meaning.Scripts.{scripts_in}
use Rattle.dr_replay.specs.Calls.Workers.{AuditFinds, IsOfMerge}
use Rattle.dr_operations.specs.declared.cause.Cause.{Cause}
use Rattle.dr_replay.specs.declared.fault.ReplayFault.{ReplayFault}
use Rattle.dr_replay.specs.declared.fault.ReplayFault.TheVariants as fault

-- What a replay does: as any run over a file, and at a fault of a worker or of an audit nothing is written, of a file without a fault.

abbrev pub ReplayFaultWrites : ReplayFault → Option (List ℕ) → Option (List ℕ) → Said Cause → Type 0
ReplayFaultWrites (fault.File f) old new said = FaultWrites f old new said
ReplayFaultWrites (fault.Worker who f) old new said = (said.fault ≡ None) × Keeps old new
ReplayFaultWrites (fault.Audit f) old new said = (said.fault ≡ None) × Keeps old new

abbrev pub ReplayWrites : {A : Type 0} → Result A ReplayFault → Option (List ℕ) → Option (List ℕ) → Said Cause → Type 0
ReplayWrites (Ok done) old new said = (said.fault ≡ None) × Appends old new (joined said.lines)
ReplayWrites (Err e) old new said = ReplayFaultWrites e old new said

-- the fault of a run without workers: that of the file, or one of memory, reading or writing
abbrev pub IsOfFile : ReplayFault → Type 0
IsOfFile (fault.File f) = Unit {0}
IsOfFile other = ⊥

abbrev pub ReplayFaultKeeps : ReplayFault → Option (List ℕ) → Option (List ℕ) → Type 0
ReplayFaultKeeps (fault.File f) old new = FaultKeeps f old new
ReplayFaultKeeps (fault.Worker who f) old new = Keeps old new
ReplayFaultKeeps (fault.Audit f) old new = Keeps old new

abbrev pub ReplayFaultCounts : ReplayFault → ℕ → ℕ → ℕ → ℕ → Type 0
ReplayFaultCounts (fault.File f) reads reads2 writes writes2 = FaultCounts f reads reads2 writes writes2
ReplayFaultCounts (fault.Worker who f) reads reads2 writes writes2 = (reads2 ≡ reads) × (writes2 ≡ writes)
ReplayFaultCounts (fault.Audit f) reads reads2 writes writes2 = (reads2 ≡ reads) × (writes2 ≡ writes)

abbrev pub ReplayCounts : {A : Type 0} → Result A ReplayFault → ℕ → ℕ → ℕ → ℕ → Type 0
ReplayCounts (Ok done) reads reads2 writes writes2 = (reads2 ≡ reads) × (writes2 ≡ writes)
ReplayCounts (Err e) reads reads2 writes writes2 = ReplayFaultCounts e reads reads2 writes writes2

-- Behind a lock: the same, but that the report is of a merge.

-- a report of the list that an audit finds of some such history: all events that were published, a merge of what the producers were to send, which each handler received that was not retired
pub record IsReportOfMerge (IsSuch : History Event → Type 0) (events : List Event) (text : List ℕ) : Type 0 where
  pub history : History Event
  pub such : IsSuch history
  pub list : List Event
  pub audited : IsAudited (transcript history) (handlers history.core.setup) (scripts_in events) list
  pub says : text ≡ report_of list

-- at a failed write a beginning of such a report is written; a worker's fault is one of the handlers or of these producers, and an audit's is one of these producers and their events
abbrev pub LockFaultWrites : (ℕ → Type 0) → ℕ → ReplayFault → Option (List ℕ) → Option (List ℕ) → Result (List Event) ℕ → Type 0
LockFaultWrites may_stop size (fault.File file.Write) old new events =
    (found : List Event) × (text : List ℕ) × (events ≡ Ok found) × IsReportOfMerge (IsOfReplay size found) found text × AppendsFront old new text
LockFaultWrites may_stop size (fault.Worker who f) old new events =
    (found : List Event) × (events ≡ Ok found) × IsOfMerge may_stop (IsOfReplay size found) found (fault.Worker who f) × Keeps old new
LockFaultWrites may_stop size (fault.Audit f) old new events = (found : List Event) × (events ≡ Ok found) × AuditFinds (IsOfReplay size found) (scripts_in found) f × Keeps old new
LockFaultWrites may_stop size other old new events = ReplayFaultWrites other old new (reported events)

-- workers that these may stop, over an exchange of this size
abbrev pub LockWrites : {A : Type 0} → (ℕ → Type 0) → ℕ → Result A ReplayFault → Option (List ℕ) → Option (List ℕ) → Result (List Event) ℕ → Type 0
LockWrites may_stop size (Ok done) old new events =
    (found : List Event) × (text : List ℕ) × (events ≡ Ok found) × IsReportOfMerge (IsOfReplay size found) found text × Appends old new text
LockWrites may_stop size (Err e) old new events = LockFaultWrites may_stop size e old new events
