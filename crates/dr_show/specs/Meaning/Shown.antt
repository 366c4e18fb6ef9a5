-- What a run of `show` leaves written, and what it answers.
use Rattle.std.specs.Prelude.{◌≡◌, ℕ, Result, Ok, Err, List, Option, Some, None}
use Rattle.std.specs.Io.KnownBytes.{Appends, Keeps}
use Rattle.dr_files.specs.Outcome.{AppendsFront}
use Rattle.dr_files.specs.declared.fault.FileFault.{FileFault}
use Rattle.dr_files.specs.declared.fault.FileFault.TheVariants as fault
use Rattle.dr_drive.specs.declared.fault.Cause.{Cause}
use Rattle.dr_drive.specs.Meaning.DriveText.{drive_text}
use Rattle.dr_show.specs.declared.tool.Window.{Window}
use Rattle.dr_show.specs.Meaning.PageText.{page_text}

-- what a fault leaves written: of the file, the whole page; where memory ran out or a read failed, nothing; at a failed write, a beginning of the page
abbrev pub FaultShows : FileFault Cause → Option (List ℕ) → Option (List ℕ) → Window → List ℕ → List ℕ → List ℕ → Type 0
FaultShows (fault.Input k cause) old new w before after input =
    ((drive_text input).fault ≡ Some (record { k = k; cause = cause })) × Appends old new (page_text w before after input)
FaultShows fault.Memory old new w before after input = Keeps old new
FaultShows fault.Read old new w before after input = Keeps old new
FaultShows fault.Write old new w before after input = AppendsFront old new (page_text w before after input)

-- a run that succeeds has written the page of a file without a fault
abbrev pub ShowWrites : {A : Type 0} → Result A (FileFault Cause) → Option (List ℕ) → Option (List ℕ) → Window → List ℕ → List ℕ → List ℕ → Type 0
ShowWrites (Ok done) old new w before after input = ((drive_text input).fault ≡ None) × Appends old new (page_text w before after input)
ShowWrites (Err e) old new w before after input = FaultShows e old new w before after input

-- a fault of memory or of reading is answered with nothing written, whatever the reader shows
abbrev pub UnreadKeeps : FileFault Cause → Option (List ℕ) → Option (List ℕ) → Type 0
UnreadKeeps fault.Memory old new = Keeps old new
UnreadKeeps fault.Read old new = Keeps old new
UnreadKeeps other old new = Unit {0}
