-- What the parts of a run put into the page.
use Rattle.std.specs.Prelude.{◌≡◌, ℕ, false, Option, Some, None, Result, Ok, Err, List, ◌++◌, codes, decimal}
use Rattle.dr_files.specs.declared.fault.FileFault.{FileFault}
use Rattle.dr_files.specs.declared.fault.FileFault.TheVariants as fault
use Rattle.dr_files.specs.Outcome.{Fault}
use Rattle.dr_records.specs.Records.{Record}
use Rattle.dr_drive.specs.declared.fault.Cause.{Cause}
use Rattle.dr_drive.specs.Meaning.Setup.{Empty}
use Rattle.dr_drive.specs.Meaning.DriveText.{Preparing, drive_text, text_from}
use Rattle.dr_show.specs.declared.tool.Window.{Window}
use Rattle.dr_show.specs.Meaning.PageText.{objects_from, page_text}

-- a run that is whole, with a fault of the file or without, put a text; else memory ran out
abbrev pub Puts : {A : Type 0} → Result A (FileFault Cause) → Option (Fault Cause) → List ℕ → List ℕ → List ℕ → Type 0
Puts (Ok done) found text old new = (found ≡ None) × (new ≡ old ++ text)
Puts (Err (fault.Input k cause)) found text old new = (found ≡ Some (record { k = k; cause = cause })) × (new ≡ old ++ text)
Puts (Err fault.Memory) found text old new = Unit {0}
Puts (Err fault.Read) found text old new = ⊥
Puts (Err fault.Write) found text old new = ⊥

-- the objects of all records
abbrev pub PutsObjects : {A : Type 0} → Result A (FileFault Cause) → Window → List Record → List ℕ → List ℕ → Type 0
PutsObjects result w rs old new = Puts result (text_from false 1 (Preparing Empty) rs).fault (objects_from w 1 (Preparing Empty) rs) old new

-- what comes before the objects, and after them
abbrev pub head_text : Window → List ℕ → List ℕ
head_text w before = before ++ (codes "{\"from\":" ++ decimal w.from ++ codes ",\"steps\":" ++ decimal w.steps ++ codes ",\"records\":[\n")

abbrev pub tail_text : List ℕ → List ℕ
tail_text after = codes "\n]}" ++ after

-- the page of a text
abbrev pub PutsPage : {A : Type 0} → Result A (FileFault Cause) → Window → List ℕ → List ℕ → List ℕ → List ℕ → List ℕ → Type 0
PutsPage result w before after text old new = Puts result (drive_text text).fault (page_text w before after text) old new
