-- What a read of an event file answers.
use Rattle.std.specs.Prelude.{◌≡◌, ℕ, Result, Ok, Err, List, Vec, codes}
use Rattle.dr_seq.specs.declared.event.Event.{Event}
use Rattle.dr_files.specs.declared.fault.FileFault.{FileFault}
use Rattle.dr_files.specs.declared.fault.FileFault.TheVariants as file
use Rattle.dr_records.specs.Records.{Record}
use Rattle.dr_operations.specs.EventFile.{events_in}
use Rattle.dr_operations.specs.declared.cause.Cause.{Cause}
use Rattle.dr_operations.specs.declared.cause.Cause.TheVariants.{BadRecord}

-- there is one cause
abbrev pub cause_name : Cause → List ℕ
cause_name BadRecord = codes "bad record"

-- records that have events, or a first bad one; of memory nothing is said
abbrev pub ReadFails : FileFault Cause → List Record → Type 0
ReadFails (file.Input k cause) rs = (events_in rs ≡ Err k) × (cause ≡ BadRecord)
ReadFails file.Memory rs = Unit {0}
ReadFails other rs = ⊥

abbrev pub ReadsAs : {Z : Type 0} → Result (Vec Event Z) (FileFault Cause) → List Record → Type 0
ReadsAs (Ok events) rs = events_in rs ≡ Ok events.items
ReadsAs (Err e) rs = ReadFails e rs

-- the events of a file, or its first bad record; of memory and of a failed read nothing is said
abbrev pub FileFaultIs : FileFault Cause → Result (List Event) ℕ → Type 0
FileFaultIs (file.Input k cause) events = (events ≡ Err k) × (cause ≡ BadRecord)
FileFaultIs file.Write events = ⊥
FileFaultIs other events = Unit {0}

abbrev pub FileIs : {Z : Type 0} → Result (Vec Event Z) (FileFault Cause) → Result (List Event) ℕ → Type 0
FileIs (Ok found) events = events ≡ Ok found.items
FileIs (Err e) events = FileFaultIs e events
