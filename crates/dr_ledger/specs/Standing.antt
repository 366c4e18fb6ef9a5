-- What a ledger stands for: `seen` and `may_leave` are its devices', and `faults` counts their failures.
use Rattle.std.specs.Prelude.{◌≡◌, ℕ, ◌+◌, false, List, [], ◌++◌, Option, None, Some}
use Rattle.dr_seq.specs.declared.event.Event.{Event}
use Rattle.dr_journal.specs.Calls.Journals.{IsAtRest, records_of, faults_of}
use Rattle.dr_journal.specs.Calls.Records.{AreValues, event_in}
use Rattle.dr_journal.specs.Meaning.Format.{IsJournal, recovered}
use Rattle.dr_journal.specs.declared.journal.Journal.{Journal}
use Rattle.dr_accounts.specs.Responding.{HasAnswers}
use Rattle.dr_accounts.specs.declared.responder.Responder.{Responder}
use Rattle.dr_ledger.specs.declared.ledger.Ledger.{Ledger}

-- records say these operations, one each
abbrev pub Say : List (List ℕ) → List Event → Type 0
Say records events = AreValues event_in records events

-- operations begin with these
abbrev pub IsBeginning : List Event → List Event → Type 0
IsBeginning front events = (later : List Event) × (events ≡ front ++ later)

-- a file stands for these operations
abbrev pub StandsForThem : List Event → List ℕ → Type 0
StandsForThem events file = IsJournal file × Say (recovered file) events

-- a responder has booked these operations, and no answer waits
pub record HasBooked (responder : Responder) (events : List Event) : Type 0 where
  pub accounts : HasAnswers responder events []
  pub well : responder.failed ≡ false

abbrev pub journal_of : {D : Type 0} → Ledger D → Journal D
journal_of ledger = ledger.journal

abbrev pub replica_of : {D : Type 0} → Ledger D → Option (Journal D)
replica_of ledger = ledger.replica

abbrev pub business_of : {D : Type 0} → Ledger D → Responder
business_of ledger = ledger.responder

module _ {D : Type 0} (faults : D → ℕ) where
  abbrev pub replica_faults : Option (Journal D) → ℕ
  replica_faults None = 0
  replica_faults (Some replica) = faults_of faults replica

  -- how often the disks of a ledger have failed
  abbrev pub disk_faults : Ledger D → ℕ
  disk_faults ledger = faults_of faults (journal_of ledger) + replica_faults (replica_of ledger)

module _ {D : Type 0} (seen : D → List ℕ) (may_leave : D → List ℕ → Type 0) where
  -- a journal stands for these operations, all of them on the disk
  pub record Holds (journal : Journal D) (events : List Event) : Type 0 where
    pub at_rest : IsAtRest seen may_leave journal
    pub records : Say (records_of seen journal) events

  -- so does a replica, where there is one
  abbrev pub Copies : Option (Journal D) → List Event → Type 0
  Copies None events = Unit {0}
  Copies (Some replica) events = Holds replica events

  -- a ledger stands for these operations: its journal and its replica have them, and they are booked and answered
  pub record IsAtWork (ledger : Ledger D) (events : List Event) : Type 0 where
    pub journal : Holds (journal_of ledger) events
    pub replica : Copies (replica_of ledger) events
    pub booked : HasBooked (business_of ledger) events
