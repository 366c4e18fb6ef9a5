-- What a journal is printed as, and why it is not.
use Rattle.std.specs.Prelude.{◌≡◌, ◌+◌, ℕ, List, Option, Result, Ok, Err}
use Rattle.std.specs.Io.KnownBytes.{Appends, Keeps}
use Rattle.dr_seq.specs.declared.event.Event.{Event}
use Rattle.dr_files.specs.Outcome.{AppendsFront}
use Rattle.dr_journal.specs.Meaning.Format.{IsForeign, recovered}
use Rattle.dr_journal.specs.declared.fault.JournalFault.TheVariants.{NoMemory}
use Rattle.dr_journal.specs.declared.fault.OpenFault.TheVariants as opening
use Rattle.dr_operations.specs.Written.{file_of}
use Rattle.dr_ledger.specs.Standing.{Say}
use Rattle.dr_ledger.specs.Starting.{TellsRecords}
use Rattle.dr_ledger.specs.declared.fault.LedgerFault.TheVariants as fault
use Rattle.dr_ledger.specs.declared.start_fault.StartFault.{StartFault}
use Rattle.dr_ledger.specs.declared.start_fault.StartFault.TheVariants as start

-- why a file says no operations: it is no journal's, a record is none, or there is no memory
abbrev pub TellsFile : StartFault → List ℕ → Type 0
TellsFile (start.Journal opening.NotAJournal) file = IsForeign file
TellsFile (start.Journal (opening.Journal NoMemory)) file = Unit {0}
TellsFile (start.Ledger ended) file = TellsRecords ended (recovered file)
TellsFile other file = ⊥

-- so it is of printing, where a read or a write may fail too
abbrev pub TellsPrinting : StartFault → List ℕ → Type 0
TellsPrinting (start.Ledger fault.Read) file = Unit {0}
TellsPrinting (start.Ledger fault.Write) file = Unit {0}
TellsPrinting other file = TellsFile other file

-- a file is printed as the operations that it says, of which a beginning is written where a write failed
abbrev pub Prints : Result (Unit {0}) StartFault → List ℕ → Option (List ℕ) → Option (List ℕ) → Type 0
Prints (Ok done) file old new = (IsForeign file → ⊥) × ((events : List Event) × Say (recovered file) events × Appends old new (file_of events))
Prints (Err (start.Ledger fault.Write)) file old new = (events : List Event) × Say (recovered file) events × AppendsFront old new (file_of events)
Prints (Err other) file old new = TellsPrinting other file

-- where it fails otherwise nothing is written
abbrev pub PrintsNothing : StartFault → Option (List ℕ) → Option (List ℕ) → Type 0
PrintsNothing (start.Ledger fault.Write) old new = Unit {0}
PrintsNothing other old new = Keeps old new

-- a read or a write that failed is answered as such, and no other fault is one
abbrev pub CountsPrinting : Result (Unit {0}) StartFault → ℕ → ℕ → ℕ → ℕ → Type 0
CountsPrinting (Err (start.Ledger fault.Read)) reads reads2 writes writes2 = (reads2 ≡ reads + 1) × (writes2 ≡ writes)
CountsPrinting (Err (start.Ledger fault.Write)) reads reads2 writes writes2 = (reads2 ≡ reads) × (writes2 ≡ writes + 1)
CountsPrinting other reads reads2 writes writes2 = (reads2 ≡ reads) × (writes2 ≡ writes)
