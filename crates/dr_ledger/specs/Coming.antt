-- A file of a ledger as it is opened, and what of it came.
use Rattle.std.specs.Prelude.{◌≡◌, ℕ, List, [], ◌++◌, Option, None, Some, IsSome}
use Rattle.dr_seq.specs.declared.event.Event.{Event}
use Rattle.dr_journal.specs.Calls.Opened.{read_so_far}
use Rattle.dr_journal.specs.Meaning.Format.{recovered}
use Rattle.dr_journal.specs.declared.fault.OpenFault.{OpenFault}
use Rattle.dr_journal.specs.declared.opening.Opening.{Opening}
use Rattle.dr_ledger.specs.Standing.{Say}
use Rattle.dr_ledger.specs.declared.coming.Coming.{Coming}
use Rattle.dr_ledger.specs.declared.coming.Role.{Role}
use Rattle.dr_ledger.specs.declared.coming.Role.TheVariants as file
use Rattle.dr_ledger.specs.declared.start_fault.StartFault.{StartFault}
use Rattle.dr_ledger.specs.declared.start_fault.StartFault.TheVariants as start

-- why a ledger does not start whose file of this role is not opened
abbrev pub refusal : Role → OpenFault → StartFault
refusal file.Journal fault = start.Journal fault
refusal file.Replica fault = start.Replica fault

abbrev pub role_of : Coming → Role
role_of coming = coming.role

-- the bytes that were read of a file which is open still, or was before
abbrev pub read_of : Option Opening → Option Opening → List ℕ
read_of (Some opening) before = read_so_far opening
read_of None (Some opening) = read_so_far opening
read_of None None = []

-- the records of a file, as far as it was read
abbrev pub records_read : Coming → List (List ℕ)
records_read coming = recovered (read_of coming.opening coming.before.value)

-- a file was only read: its journal is not made
abbrev pub IsOnlyRead : Coming → Type 0
IsOnlyRead coming = IsSome coming.opening

-- the operations of a file that came and were not taken yet
abbrev pub waiting_of : Coming → List Event
waiting_of coming = coming.waiting.items

-- the records so far say these operations, which were taken, and then those that wait
abbrev pub HasCome : Coming → List Event → Type 0
HasCome coming past = Say (records_read coming) (past ++ waiting_of coming)

-- so far nothing was taken, and nothing written
pub record IsFresh (coming : Coming) : Type 0 where
  pub only_read : IsOnlyRead coming
  pub come : HasCome coming []

-- the first ones of these records say these operations
pub record SayFirst (records : List (List ℕ)) (events : List Event) : Type 0 where
  pub first : List (List ℕ)
  pub later : List (List ℕ)
  pub parts : records ≡ first ++ later
  pub say : Say first events
