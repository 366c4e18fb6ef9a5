-- What the parts of a run tell of the drive text.
use Rattle.std.specs.Prelude.{◌≡◌, ◌+◌, ℕ, Bool, Result, Ok, Err, List, [], length, Option, Some, option_to_list}
use Rattle.std.specs.Io.KnownBytes.{Appends, Keeps}
use Rattle.dr_drive.specs.declared.tool.Opened.{Opened}
use Rattle.dr_drive.specs.declared.exchange.Exchange.{Exchange}
use Rattle.dr_drive.specs.declared.fault.Cause.{Cause}
use Rattle.dr_files.specs.declared.fault.FileFault.{FileFault}
use Rattle.dr_files.specs.declared.fault.FileFault.TheVariants as fault
use Rattle.dr_records.specs.Records.{Record}
use Rattle.dr_drive.specs.Meaning.Setup.{Empty}
use Rattle.dr_drive.specs.Meaning.DriveText.{Phase, Preparing, Running, Taken, text_from}
use Rattle.dr_files.specs.Lines.{joined}
use Rattle.dr_files.specs.Outcome.{AppendsFront}
use Rattle.dr_drive.specs.Calls.Shows.{ExchangeShows}

-- an exchange shows a phase after the setup
abbrev pub ShowsPhase : Exchange → Phase → Type 0
ShowsPhase e (Preparing stage) = ⊥
ShowsPhase e (Running names c m) = ExchangeShows e names c m

-- the setup's records wrote nothing, and what a file says is what the records that are left say from the opening on
pub record IsSetUp (states : Bool) (o : Opened) (rs left : List Record) : Type 0 where
  pub phase : Phase
  pub counted : o.k + length left ≡ 1 + length rs
  pub says : text_from states 1 (Preparing Empty) rs ≡ text_from states o.k phase left
  pub shows : ShowsPhase o.exchange phase

-- a setup that fails is at fault at a record, with nothing written, or memory ran out
abbrev pub SetupFaultTells : Bool → FileFault Cause → List Record → Type 0
SetupFaultTells states (fault.Input k cause) rs = text_from states 1 (Preparing Empty) rs ≡ record { lines = []; fault = Some (record { k = k; cause = cause }) }
SetupFaultTells states fault.Memory rs = Unit {0}
SetupFaultTells states fault.Read rs = ⊥
SetupFaultTells states fault.Write rs = ⊥

-- a setup of all these records, and those that it leaves
abbrev pub SetsUpAs : Bool → Result Opened (FileFault Cause) → List Record → List Record → Type 0
SetsUpAs states (Ok o) rs left = IsSetUp states o rs left
SetsUpAs states (Err e) rs left = SetupFaultTells states e rs

-- a command, the one of record k, fails by its record, since memory ran out, or by the write of its line
abbrev pub CommandFaultTells : FileFault Cause → ℕ → Result Taken Cause → Option (List ℕ) → Option (List ℕ) → Type 0
CommandFaultTells (fault.Input j cause) k t old new = (j ≡ k) × (t ≡ Err cause) × Keeps old new
CommandFaultTells fault.Memory k t old new = Keeps old new
CommandFaultTells fault.Read k t old new = ⊥
CommandFaultTells fault.Write k t old new = (after : Phase) × (line : List ℕ) × (t ≡ Ok (record { phase = after; line = Some line })) × AppendsFront old new line

-- a command, the one of record k, writes its line
abbrev pub CommandTells : {A : Type 0} → Result A (FileFault Cause) → Exchange → ℕ → Result Taken Cause → Option (List ℕ) → Option (List ℕ) → Type 0
CommandTells (Ok done) e k t old new = (did : Taken) × (t ≡ Ok did) × ShowsPhase e did.phase × Appends old new (joined (option_to_list did.line))
CommandTells (Err f) e k t old new = CommandFaultTells f k t old new
