-- What a ledger starts from, and why it does not start.
use Rattle.std.specs.Prelude.{◌≡◌, ◌⊎◌, ◌+◌, ◌-◌, ◌^◌, ℕ, min, false, List, [], ◌++◌, length, Option, None, Some, Result, Ok, Err}
use Rattle.dr_seq.specs.declared.event.Event.{Event}
use Rattle.dr_accounts.specs.Handlers.{HasBusiness}
use Rattle.dr_journal.specs.Calls.Journals.{CrashLeaves}
use Rattle.dr_journal.specs.Calls.Opened.{file_left, file_left_since, file_seen}
use Rattle.dr_journal.specs.Calls.Parts.{device_of}
use Rattle.dr_journal.specs.Calls.Records.{IsFirstBad, event_in}
use Rattle.dr_journal.specs.Meaning.Format.{recovered}
use Rattle.dr_journal.specs.declared.file.FileDevice.{FileDevice}
use Rattle.dr_journal.specs.declared.journal.Journal.{Journal}
use Rattle.dr_ledger.specs.Coming.{HasCome, IsOnlyRead, SayFirst, records_read, role_of, waiting_of}
use Rattle.dr_ledger.specs.Answering.{IsKept}
use Rattle.dr_ledger.specs.Standing.{Holds, IsAtWork, IsBeginning, Say, journal_of, replica_of}
use Rattle.dr_ledger.specs.declared.accounts.Accounts.{Accounts}
use Rattle.dr_ledger.specs.declared.coming.Coming.{Coming}
use Rattle.dr_ledger.specs.declared.coming.Role.{Role}
use Rattle.dr_ledger.specs.declared.coming.Role.TheVariants as file
use Rattle.dr_ledger.specs.declared.fault.LedgerFault.{LedgerFault}
use Rattle.dr_ledger.specs.declared.fault.LedgerFault.TheVariants as fault
use Rattle.dr_ledger.specs.declared.ledger.Ledger.{Ledger}
use Rattle.dr_ledger.specs.declared.start_fault.StartFault.{StartFault}
use Rattle.dr_ledger.specs.declared.start_fault.StartFault.TheVariants as start

-- the accounts of a ledger that begins have these operations
pub record AreBooked (accounts : Accounts) (events : List Event) : Type 0 where
  pub balances : HasBusiness accounts.business events
  pub well : accounts.business.failed ≡ false
  pub count : accounts.count ≡ length events

-- how many operations they have
abbrev pub count_of : Accounts → ℕ
count_of accounts = accounts.count

-- of these records the one of this number, counted from 1 as far as a `u64` counts, is the first that is no operation
abbrev pub IsBadRecord : List (List ℕ) → ℕ → Type 0
IsBadRecord records k = (n : ℕ) × (k ≡ min (n + 1) (2 ^ 64 - 1)) × IsFirstBad event_in records n

-- why records do not say operations
abbrev pub TellsRecords : LedgerFault → List (List ℕ) → Type 0
TellsRecords (fault.BadRecord k) records = IsBadRecord records k
TellsRecords fault.Memory records = Unit {0}
TellsRecords other records = ⊥

-- why no more comes of a file of this role, with these records so far
abbrev pub TellsComing : StartFault → Role → List (List ℕ) → Type 0
TellsComing (start.Ledger ended) role records = TellsRecords ended records
TellsComing (start.Journal refused) file.Journal records = Unit {0}
TellsComing (start.Replica refused) file.Replica records = Unit {0}
TellsComing other role records = ⊥

-- the faults of records
abbrev pub IsOfRecords : LedgerFault → Type 0
IsOfRecords (fault.BadRecord k) = Unit {0}
IsOfRecords fault.Memory = Unit {0}
IsOfRecords other = ⊥

-- the faults of a file of this role that is read
abbrev pub IsOfFile : StartFault → Role → Type 0
IsOfFile (start.Ledger ended) role = IsOfRecords ended
IsOfFile (start.Journal refused) file.Journal = Unit {0}
IsOfFile (start.Replica refused) file.Replica = Unit {0}
IsOfFile other role = ⊥

-- records of two ledgers: neither's operations are a beginning of the other's
abbrev pub Differ : List (List ℕ) → List (List ℕ) → Type 0
Differ records copied = (events others : List Event) → Say records events → Say copied others → (IsBeginning events others → ⊥) × (IsBeginning others events → ⊥)

-- one file

-- these operations were taken of it, and they are booked
pub record IsTaken (coming : Coming) (accounts : Accounts) (past : List Event) : Type 0 where
  pub come : HasCome coming past
  pub booked : AreBooked accounts past

-- all that it says is booked, or it is told why no more comes
abbrev pub BooksAll : {A : Type 0} → Result A StartFault → Coming → Accounts → List Event → Type 0
BooksAll (Ok done) coming accounts past = (more : List Event) × IsTaken coming accounts (past ++ more) × (waiting_of coming ≡ [])
BooksAll (Err fault) coming accounts past = TellsComing fault (role_of coming) (records_read coming)

-- both files

-- of both these operations were taken, and they are booked
pub record AreTaken (first second : Coming) (accounts : Accounts) (past : List Event) : Type 0 where
  pub journal : HasCome first past
  pub replica : HasCome second past
  pub booked : AreBooked accounts past

-- nothing waits of the one with this role
abbrev pub HasNoMore : Role → Coming → Coming → Type 0
HasNoMore file.Journal journal replica = waiting_of journal ≡ []
HasNoMore file.Replica journal replica = waiting_of replica ≡ []

-- why a journal and a replica do not agree, of which so much was read
abbrev pub TellsDisagreement : StartFault → Coming → Coming → Type 0
TellsDisagreement (start.Journal refused) journal replica = Unit {0}
TellsDisagreement (start.Replica refused) journal replica = Unit {0}
TellsDisagreement start.Differs journal replica = Differ (records_read journal) (records_read replica)
TellsDisagreement (start.Ledger (fault.BadRecord k)) journal replica = IsBadRecord (records_read journal) k ⊎ IsBadRecord (records_read replica) k
TellsDisagreement (start.Ledger fault.Memory) journal replica = Unit {0}
TellsDisagreement other journal replica = ⊥

-- both say some operations more, up to which they agree
abbrev pub Agrees : {A : Type 0} → Result A StartFault → Coming → Coming → Accounts → List Event → Type 0
Agrees (Ok done) journal replica accounts past = (more : List Event) × AreTaken journal replica accounts (past ++ more)
Agrees (Err fault) journal replica accounts past = TellsDisagreement fault journal replica

-- a journal, and the rest of another file

-- why a journal is not given the rest of a file
abbrev pub TellsLevel : StartFault → Coming → Type 0
TellsLevel (start.Ledger fault.Disk) rest = Unit {0}
TellsLevel (start.Ledger fault.Full) rest = Unit {0}
TellsLevel other rest = TellsComing other (role_of rest) (records_read rest)

module _ {D : Type 0} (seen : D → List ℕ) (may_leave : D → List ℕ → Type 0) where
  -- a journal stands for these operations, which were taken of the file, and they are booked
  pub record IsLevel (journal : Journal D) (rest : Coming) (accounts : Accounts) (past : List Event) : Type 0 where
    pub holds : Holds seen may_leave journal past
    pub comes : HasCome rest past
    pub booked : AreBooked accounts past

  -- it has all that came
  abbrev pub LeavesLevel : Result (Unit {0}) StartFault → Journal D → Coming → Accounts → List Event → Type 0
  LeavesLevel (Ok done) journal rest accounts all = IsLevel journal rest accounts all × (waiting_of rest ≡ [])
  LeavesLevel (Err fault) journal rest accounts all = TellsLevel fault rest

  module _ (moment : D → ℕ) (left_since : D → ℕ → List ℕ → Type 0) where
    -- some operations came, and at each moment a crash left the journal with what it had and a beginning of them
    pub record Levels (result : Result (Unit {0}) StartFault) (old new : Journal D) (rest : Coming) (accounts : Accounts) (past : List Event) : Type 0 where
      pub came : List Event
      pub said : SayFirst (records_read rest) (past ++ came)
      pub any_moment : CrashLeaves moment left_since old new (IsKept past [] came)
      pub leaves : LeavesLevel result new rest accounts (past ++ came)

-- a ledger that starts

-- the records of a file say the operations that it had, and then a beginning of those that it lacked of all
pub record AreBetween (had all : List Event) (records : List (List ℕ)) : Type 0 where
  pub kept : List Event
  pub say : Say records kept
  pub had_all : IsBeginning had kept
  pub first : IsBeginning kept all

-- each crash since a file was opened left it so
abbrev pub OnlyGains : Journal FileDevice → List Event → List Event → Type 0
OnlyGains journal had all = (c : List ℕ) → file_left_since (device_of journal) 0 c → AreBetween had all (recovered c)

-- so it is of a replica, and there is one
abbrev pub CopyOnlyGains : Option (Journal FileDevice) → List Event → List Event → Type 0
CopyOnlyGains None had all = ⊥
CopyOnlyGains (Some replica) had all = OnlyGains replica had all

-- two files are journals now, of which the first one was given what only the second one had
pub record Even (made other : Journal FileDevice) (short long : Coming) (accounts : Accounts) (had : List Event) : Type 0 where
  pub more : List Event
  pub says : Say (records_read short) had
  pub other_says : Say (records_read long) (had ++ more)
  pub holds : Holds file_seen file_left made (had ++ more)
  pub other_holds : Holds file_seen file_left other (had ++ more)
  pub booked : AreBooked accounts (had ++ more)
  pub any_moment : OnlyGains made had (had ++ more)
  pub other_any_moment : OnlyGains other (had ++ more) (had ++ more)

-- why they are not. Of the longer one a record is no operation only where it is untouched
abbrev pub TellsEven : StartFault → Coming → Type 0
TellsEven (start.Journal refused) long = Unit {0}
TellsEven (start.Replica refused) long = Unit {0}
TellsEven (start.Ledger (fault.BadRecord k)) long = IsOnlyRead long × IsBadRecord (records_read long) k
TellsEven (start.Ledger fault.Memory) long = Unit {0}
TellsEven (start.Ledger fault.Disk) long = Unit {0}
TellsEven (start.Ledger fault.Full) long = Unit {0}
TellsEven other long = ⊥

abbrev pub Evens : Result (Journal FileDevice × Journal FileDevice) StartFault → Coming → Coming → Accounts → List Event → Type 0
Evens (Ok both) short long accounts had = Even both.0 both.1 short long accounts had
Evens (Err fault) short long accounts had = TellsEven fault long

-- it goes on from what its journal has
pub record StartsFrom (ledger : Ledger FileDevice) (count : ℕ) (journal : Coming) : Type 0 where
  pub all : List Event
  pub says : Say (records_read journal) all
  pub work : IsAtWork file_seen file_left ledger all
  pub counted : count ≡ length all
  pub any_moment : OnlyGains (journal_of ledger) all all

-- it goes on from what its journal and its replica have, of which one has all that the other has
pub record StartsFromBoth (ledger : Ledger FileDevice) (count : ℕ) (journal replica : Coming) : Type 0 where
  pub own : List Event
  pub copied : List Event
  pub all : List Event
  pub says : Say (records_read journal) own
  pub copies : Say (records_read replica) copied
  pub from_one : (all ≡ own) ⊎ (all ≡ copied)
  pub own_first : IsBeginning own all
  pub copied_first : IsBeginning copied all
  pub work : IsAtWork file_seen file_left ledger all
  pub counted : count ≡ length all
  pub any_moment : OnlyGains (journal_of ledger) own all
  pub any_moment_copy : CopyOnlyGains (replica_of ledger) copied all

-- why it does not start from its journal. A file with a record that is no operation is untouched
abbrev pub TellsStart : StartFault → Coming → Type 0
TellsStart (start.Ledger (fault.BadRecord k)) journal = IsOnlyRead journal × IsBadRecord (records_read journal) k
TellsStart other journal = TellsComing other (role_of journal) (records_read journal)

-- why it does not start from both. Where they differ, both are untouched
abbrev pub TellsStartFromBoth : StartFault → Coming → Coming → Type 0
TellsStartFromBoth (start.Journal refused) journal replica = Unit {0}
TellsStartFromBoth (start.Replica refused) journal replica = Unit {0}
TellsStartFromBoth start.Differs journal replica = IsOnlyRead journal × IsOnlyRead replica × Differ (records_read journal) (records_read replica)
TellsStartFromBoth (start.Ledger (fault.BadRecord k)) journal replica = (IsOnlyRead journal × IsBadRecord (records_read journal) k) ⊎ (IsOnlyRead replica × IsBadRecord (records_read replica) k)
TellsStartFromBoth (start.Ledger fault.Memory) journal replica = Unit {0}
TellsStartFromBoth (start.Ledger fault.Disk) journal replica = Unit {0}
TellsStartFromBoth (start.Ledger fault.Full) journal replica = Unit {0}
TellsStartFromBoth other journal replica = ⊥
