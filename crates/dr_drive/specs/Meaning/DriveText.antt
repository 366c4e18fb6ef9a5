-- The drive text: what a file says, line by line, and how it ends.
use Rattle.std.specs.Prelude.{ℕ, ◌+◌, Bool, false, if◌then◌else◌, List, [], ◌∷◌, ◌++◌, Option, Some, None, option_to_list, Result, Ok, Err}
use Rattle.dr_seq.specs.declared.event.Event.{Event}
use Rattle.dr_meaning.specs.declared.command.Command.{Command}
use Rattle.dr_meaning.specs.Meaning.Machine.{Setup, State, Outcome, opening, step}
use Rattle.dr_drive.specs.declared.fault.Cause.{Cause}
use Rattle.dr_drive.specs.declared.fault.Cause.TheVariants.{BadRecord}
use Rattle.dr_records.specs.Records.{Field, Record, records_of}
use Rattle.dr_drive.specs.Meaning.Commands.{command_of}
use Rattle.dr_drive.specs.Meaning.Lines.{line_of}
use Rattle.dr_drive.specs.Meaning.StateLine.{state_line}
use Rattle.dr_files.specs.Lines.{Line}
use Rattle.dr_files.specs.Outcome.{Fault, Said}
use Rattle.dr_drive.specs.Meaning.Setup.{SettingUp, Empty, Prepared, Goes, Opens, missing, prepared}

-- how far a file has come: in its setup, or at a state of the machine, whose handlers have these names
pub data Phase : Type 0 where
  Preparing : SettingUp → Phase
  Running : List Field → Setup → State Event → Phase

-- what a record did: the phase after it, and its line, if it has one
pub record Taken : Type 0 where
  pub phase : Phase
  pub line : Option Line

-- a record of the setup writes no line; the machine begins at its opening
abbrev pub prepares : Result Prepared Cause → Result Taken Cause
prepares (Ok (Goes stage)) = Ok (record { phase = Preparing stage; line = None })
prepares (Ok (Opens names c)) = Ok (record { phase = Running names c (opening c); line = None })
prepares (Err cause) = Err cause

-- what is told of a command: the line of its reply and, where states are told too, the line of the state after it
abbrev pub told : Bool → List Field → Setup → Outcome Event → Line
told states names c o = if states then line_of o.reply o.values ++ state_line names c o.state else line_of o.reply o.values

abbrev pub ran : Bool → List Field → Setup → Outcome Event → Taken
ran states names c o = record { phase = Running names c o.state; line = Some (told states names c o) }

-- a command is the machine's step, and its line is the machine's reply
abbrev pub obeys : Bool → List Field → Setup → State Event → Option (Command Event) → Result Taken Cause
obeys states names c m None = Err BadRecord
obeys states names c m (Some command) = Ok (ran states names c (step c m command))

-- what a record does, or why it is at fault
abbrev pub taken : Bool → Phase → Record → Result Taken Cause
taken states (Preparing stage) r = prepares (prepared stage r)
taken states (Running names c m) r = obeys states names c m (command_of names r)

-- a file that ends in its setup is at fault at the record that is missing; a file that ends later is complete
abbrev pub end_fault : ℕ → Phase → Option (Fault Cause)
end_fault k (Preparing stage) = Some (record { k = k; cause = missing stage })
end_fault k (Running names c m) = None

-- a file whose first record did this, or was at fault
abbrev pub text_after : ℕ → Result Taken Cause → (Phase → Said Cause) → Said Cause
text_after k (Ok t) rest = record { lines = option_to_list t.line ++ (rest t.phase).lines; fault = (rest t.phase).fault }
text_after k (Err cause) rest = record { lines = []; fault = Some (record { k = k; cause = cause }) }

-- what records say from a phase on, the first of them being record k
unfoldable pub text_from : Bool → ℕ → Phase → List Record → Said Cause
text_from states k phase [] = record { lines = []; fault = end_fault k phase }
text_from states k phase (r ∷ rs) = text_after k (taken states phase r) (λ after. text_from states (k + 1) after rs)

-- what a text of bytes says: its records, from the setup on
abbrev pub text_of : Bool → List ℕ → Said Cause
text_of states input = text_from states 1 (Preparing Empty) (records_of input)

-- the same, where no state is told
abbrev pub drive_text : List ℕ → Said Cause
drive_text input = text_of false input
