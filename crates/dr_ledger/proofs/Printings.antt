-- What a journal is printed as, and why it is not.
use Rattle.std.proofs.Common.{◌≡◌, ℕ, List, Option, None, Some, Ok, Err, refl, sym, subst}
use Rattle.std.specs.Prelude.{IfSome}
use Rattle.std.specs.Io.KnownBytes.{Appends}
use Rattle.dr_seq.specs.declared.event.Event.{Event}
use Rattle.dr_files.specs.Outcome.{AppendsFront}
use Rattle.dr_operations.specs.Written.{file_of}
use Rattle.dr_journal.specs.Meaning.Format.{IsForeign, recovered}
use Rattle.dr_journal.specs.declared.fault.JournalFault.TheVariants.{NoMemory, Failed, Full}
use Rattle.dr_journal.specs.declared.fault.OpenFault.{OpenFault}
use Rattle.dr_journal.specs.declared.fault.OpenFault.TheVariants as opening
use Rattle.dr_ledger.specs.Printing.{Prints, TellsFile}
use Rattle.dr_ledger.specs.Standing.{Say}
use Rattle.dr_ledger.specs.declared.fault.LedgerFault.TheVariants.{Write}
use Rattle.dr_ledger.specs.declared.start_fault.StartFault.TheVariants as start

-- a file in memory is refused as no journal's, or for want of memory
pub tells_open : (fault : OpenFault) (file : List ℕ) → (fault ≡ opening.NotAJournal → IsForeign file) → (fault ≡ opening.InUse → ⊥)
    → (fault ≡ opening.Journal Failed → ⊥)
    → (fault ≡ opening.Journal Full → ⊥) → TellsFile (start.Journal fault) file
tells_open opening.NotAJournal file foreign free failed full = foreign refl
tells_open opening.InUse file foreign free failed full = absurd (free refl)
tells_open (opening.Journal NoMemory) file foreign free failed full = tt
tells_open (opening.Journal Failed) file foreign free failed full = absurd (failed refl)
tells_open (opening.Journal Full) file foreign free failed full = absurd (full refl)

-- all that a file says is printed
pub prints_all : (known : Option (List ℕ)) (read : List ℕ) (events : List Event) (text : List ℕ) (old new : Option (List ℕ))
    → IfSome known (λ input. read ≡ input) → Say (recovered read) events → (IsForeign read → ⊥)
    → text ≡ file_of events → Appends old new text → IfSome known (λ file. Prints (Ok tt) file old new)
prints_all None read events text old new is says journal same wrote = tt
prints_all (Some file) read events text old new is says journal same wrote = (
  λ foreign. journal (subst (λ l. IsForeign l) (sym is) foreign),
  (events, subst (λ l. Say (recovered l) events) is says, subst (λ t. Appends old new t) same wrote),
)

-- or a beginning of it
pub prints_front : (known : Option (List ℕ)) (read : List ℕ) (events : List Event) (text : List ℕ) (old new : Option (List ℕ))
    → IfSome known (λ input. read ≡ input) → Say (recovered read) events
    → text ≡ file_of events → AppendsFront old new text → IfSome known (λ file. Prints (Err (start.Ledger Write)) file old new)
prints_front None read events text old new is says same wrote = tt
prints_front (Some file) read events text old new is says same wrote =
    (events, subst (λ l. Say (recovered l) events) is says, subst (λ t. AppendsFront old new t) same wrote)
