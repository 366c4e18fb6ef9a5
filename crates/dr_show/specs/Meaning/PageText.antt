-- The page of a file: a fixed text, an object of each record that is shown, and a fixed text.
use Rattle.std.specs.Prelude.{ℕ, ◌+◌, ◌-◌, Bool, ◌&&◌, ◌||◌, false, nat_le, nat_lt, is_none, if◌then◌else◌, Option, Some, None, List, [], ◌∷◌, ◌++◌, codes, decimal, Result, Ok, Err}
use Rattle.dr_files.specs.Lines.{Line}
use Rattle.dr_files.specs.Faults.{fault_line}
use Rattle.dr_files.specs.declared.fault.FileFault.TheVariants as fault
use Rattle.dr_records.specs.Records.{Record, records_of}
use Rattle.dr_drive.specs.declared.fault.Cause.{Cause}
use Rattle.dr_drive.specs.Meaning.Causes.{cause_name}
use Rattle.dr_drive.specs.Meaning.Setup.{Empty, missing}
use Rattle.dr_drive.specs.Meaning.DriveText.{Phase, Preparing, Running, Taken, taken}
use Rattle.dr_show.specs.declared.tool.Window.{Window}
use Rattle.dr_show.specs.Meaning.Texts.{bytes_text, fields_text}
use Rattle.dr_show.specs.Meaning.StateText.{exchange_text, state_text}

-- a record by its number, and what stands in it
abbrev pub record_text : ℕ → Record → List ℕ
record_text k r = codes "{\"record\":" ++ decimal k ++ codes ",\"text\":\"" ++ fields_text r ++ codes "\""

-- what is told after a record: of `start` the exchange, of a command the line of its reply, and of both the state then
abbrev pub told_after : Phase → Option Line → List ℕ
told_after (Preparing stage) line = []
told_after (Running names c m) None = exchange_text names c ++ state_text c m
told_after (Running names c m) (Some line) = codes ",\"reply\":\"" ++ bytes_text line ++ codes "\"" ++ state_text c m

-- the object of a record, and a comma, since another object follows
abbrev pub object_of : ℕ → Record → Taken → List ℕ
object_of k r t = record_text k r ++ told_after t.phase t.line ++ codes "},\n"

-- a window has the records from one on, so many
abbrev pub has : Window → ℕ → Bool
has w k = nat_le w.from k && nat_lt (k - w.from) w.steps

-- the setup is always shown, and of the commands those in the window
abbrev pub shows : Window → ℕ → Taken → Bool
shows w k t = is_none t.line || has w k

-- the line of a fault, as `drive` says it
abbrev pub fault_text : ℕ → Cause → List ℕ
fault_text k cause = codes ",\"fault\":\"" ++ fault_line cause_name (fault.Input k cause) ++ codes "\"}"

-- the number of the last record, and of a file that ends in its setup the fault
abbrev pub last_text : ℕ → Phase → List ℕ
last_text k (Preparing stage) = codes "{\"last\":" ++ decimal (k - 1) ++ fault_text k (missing stage)
last_text k (Running names c m) = codes "{\"last\":" ++ decimal (k - 1) ++ codes "}"

-- the record at fault is shown with its fault, and nothing comes after it
abbrev pub faulty_text : ℕ → Record → Cause → List ℕ
faulty_text k r cause = record_text k r ++ fault_text k cause ++ codes ",\n{\"last\":" ++ decimal k ++ codes "}"

abbrev pub objects_after : Window → ℕ → Record → Result Taken Cause → (Phase → List ℕ) → List ℕ
objects_after w k r (Ok t) rest = (if shows w k t then object_of k r t else []) ++ rest t.phase
objects_after w k r (Err cause) rest = faulty_text k r cause

-- the objects of records from a phase on, the first of them being record k: what each does is what `drive` says of it
unfoldable pub objects_from : Window → ℕ → Phase → List Record → List ℕ
objects_from w k phase [] = last_text k phase
objects_from w k phase (r ∷ rs) = objects_after w k r (taken false phase r) (λ after. objects_from w (k + 1) after rs)

-- the page's data: the window, and the objects
abbrev pub data_text : Window → List ℕ → List ℕ
data_text w input =
    codes "{\"from\":" ++ decimal w.from ++ codes ",\"steps\":" ++ decimal w.steps ++ codes ",\"records\":[\n"
    ++ objects_from w 1 (Preparing Empty) (records_of input) ++ codes "\n]}"

-- the page, between the fixed texts
abbrev pub page_text : Window → List ℕ → List ℕ → List ℕ → List ℕ
page_text w before after input = before ++ data_text w input ++ after
