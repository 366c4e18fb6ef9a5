-- Which phase of the drive text a run of `show` has come to.
use Rattle.std.specs.Prelude.{◌≡◌, ℕ, false, if◌then◌else◌, Option, Some, None, Result, Ok, Err, List, ◌++◌, length}
use Rattle.dr_seq.specs.declared.event.Event.{Event}
use Rattle.dr_meaning.specs.Meaning.Machine.{Setup, State}
use Rattle.dr_records.specs.Records.{Field, Record}
use Rattle.dr_drive.specs.declared.fault.Cause.{Cause}
use Rattle.dr_drive.specs.declared.fault.RecordFault.{RecordFault}
use Rattle.dr_drive.specs.declared.fault.RecordFault.TheVariants as fault
use Rattle.dr_drive.specs.Calls.Shows.{ExchangeShows, IsPreparation, setting_up_of}
use Rattle.dr_drive.specs.declared.exchange.Exchange.{Exchange}
use Rattle.dr_drive.specs.Meaning.Setup.{missing}
use Rattle.dr_drive.specs.Meaning.DriveText.{Phase, Preparing, Running, Taken, taken}
use Rattle.dr_show.specs.declared.course.Course.{Course}
use Rattle.dr_show.specs.declared.course.Course.TheVariants as at
use Rattle.dr_show.specs.declared.course.Running.{Running as Kept}
use Rattle.dr_show.specs.declared.sequences.Sequence.{Sequence}
use Rattle.dr_show.specs.declared.tool.Window.{Window}
use Rattle.dr_show.specs.Meaning.PageText.{object_of, shows}
use Rattle.dr_show.specs.Inside.Sequences.{Remembers, slots_of}

abbrev pub exchange_of : Kept → Exchange
exchange_of r = r.exchange

abbrev pub recents_of : Kept → List Sequence
recents_of r = slots_of r.recents

-- what a file lacks that ends in a phase
abbrev pub missing_of : Phase → Option Cause
missing_of (Preparing stage) = Some (missing stage)
missing_of (Running names c m) = None

-- an exchange that shows a state, and as many slots as it has, which tell of its last sequences
pub record Keeps (r : Kept) (names : List Field) (c : Setup) (m : State Event) : Type 0 where
  pub exchange : ExchangeShows r.exchange names c m
  pub size : length (recents_of r) ≡ c.size
  pub remembers : Remembers (recents_of r) m

abbrev pub RunningShows : Kept → Phase → Type 0
RunningShows r (Preparing stage) = ⊥
RunningShows r (Running names c m) = Keeps r names c m

abbrev pub CourseShows : Course → Phase → Type 0
CourseShows (at.Preparing p) phase = (phase ≡ Preparing (setting_up_of p)) × IsPreparation p
CourseShows (at.Running r) phase = RunningShows r phase

-- a record was run: its line, and the phase that is shown now
pub record RunsRecord (r : Kept) (line : List ℕ) (t : Result Taken Cause) : Type 0 where
  pub names : List Field
  pub setup : Setup
  pub state : State Event
  pub is : t ≡ Ok (record { phase = Running names setup state; line = Some line })
  pub keeps : Keeps r names setup state

-- why a record was not taken: at fault, or because memory ran out
abbrev pub FailsAs : RecordFault → Result Taken Cause → Type 0
FailsAs (fault.Cause cause) t = t ≡ Err cause
FailsAs fault.Memory t = Unit {0}

abbrev pub RunningObeys : {A : Type 0} → Result A RecordFault → Kept → List ℕ → Phase → Record → Type 0
RunningObeys (Ok done) r line phase row = RunsRecord r line (taken false phase row)
RunningObeys (Err f) r line phase row = FailsAs f (taken false phase row)

-- a record, the k-th, was taken, and its object was put where it is shown; one at fault put nothing
pub record Took (course : Course) (w : Window) (k : ℕ) (row : Record) (t : Result Taken Cause) (old new : List ℕ) : Type 0 where
  pub did : Taken
  pub is : t ≡ Ok did
  pub shown : CourseShows course did.phase
  pub put : new ≡ (if shows w k did then old ++ object_of k row did else old)

abbrev pub TakesRecord : Result Course RecordFault → Window → ℕ → Record → Result Taken Cause → List ℕ → List ℕ → Type 0
TakesRecord (Ok course) w k row t old new = Took course w k row t old new
TakesRecord (Err (fault.Cause cause)) w k row t old new = (t ≡ Err cause) × (new ≡ old)
TakesRecord (Err fault.Memory) w k row t old new = Unit {0}
