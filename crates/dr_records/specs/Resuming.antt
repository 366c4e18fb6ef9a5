-- A reading of records that stops at any byte, and goes on when more bytes come.
use Rattle.std.specs.Prelude.{ℕ, ◌+◌, ◌==◌, Bool, true, false, List, [], ◌∷◌, ◌++◌, length, if◌then◌else◌}
use Rattle.csv.specs.Machine.{next_record}
use Rattle.csv.specs.Reading.{default_config, records_from, records_next}
use Rattle.csv.specs.declared.parser.Action as csv
use Rattle.csv.specs.declared.parser.Action.TheVariants as csv_act
use Rattle.csv.specs.declared.parser.State.{State}
use Rattle.csv.specs.declared.parser.State.TheVariants as st
use Rattle.dr_records.specs.Records.{Field, Record, records_of}
use Rattle.dr_records.specs.declared.place.Action.{Action}
use Rattle.dr_records.specs.declared.place.Action.TheVariants as act
use Rattle.dr_records.specs.declared.place.Place.{Place}
use Rattle.dr_records.specs.declared.place.Place.TheVariants as place

-- the records of bytes that go on from a state of csv's machine, with the fields so far and the bytes of the field at hand
abbrev pub records_after : State → Record → Field → List ℕ → List Record
records_after s fields field more = records_next (λ after rest. records_from default_config (length rest + 1) after rest) (next_record default_config s fields field more)

-- csv's state at a place
abbrev pub state_of : Place → State
state_of place.Start = st.StartRecord
state_of place.Mark1 = st.InField
state_of place.Mark2 = st.InField
state_of place.StartRecord = st.StartRecord
state_of place.StartField = st.StartField
state_of place.InField = st.InField
state_of place.InQuoted = st.InQuoted
state_of place.AfterQuote = st.AfterQuote

-- csv's state after a CR is like that between records: an LF there is an empty line, which is no record
abbrev pub settled : State → State
settled st.AfterCr = st.StartRecord
settled other = other

-- csv's name for what a byte does
abbrev pub action_of : Action → csv.Action
action_of act.Skip = csv_act.Skip
action_of act.Copy = csv_act.Copy
action_of act.EndField = csv_act.EndField
action_of act.EndRecord = csv_act.EndRecord

-- whether all that came may be the beginning of a byte order mark
abbrev pub is_first : Place → Bool
is_first place.Start = true
is_first place.Mark1 = true
is_first place.Mark2 = true
is_first other = false

-- that beginning
abbrev pub mark_at : Place → List ℕ
mark_at place.Mark1 = 0xEF ∷ []
mark_at place.Mark2 = 0xEF ∷ 0xBB ∷ []
mark_at other = []

-- whether a byte is a mark's next, and not its last
abbrev pub goes_on : Place → ℕ → Bool
goes_on place.Start byte = byte == 0xEF
goes_on place.Mark1 byte = byte == 0xBB
goes_on other byte = false

-- whether a byte is a mark's last
abbrev pub ends_mark : Place → ℕ → Bool
ends_mark place.Mark2 byte = byte == 0xBF
ends_mark other byte = false

-- the records of a stream whose next bytes are these: where all that came may be the beginning of a mark, those of the whole text
abbrev pub records_at : Place → Record → Field → List ℕ → List Record
records_at at fields field more = if is_first at then records_of (mark_at at ++ more) else records_after (state_of at) fields field more
