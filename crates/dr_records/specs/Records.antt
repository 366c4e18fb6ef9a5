-- The records of a file: lists of fields, which are lists of bytes.
use Rattle.std.specs.Prelude.{ℕ, Bool, ◌==◌, ◌&&◌, nat_le, List, [], Option, option_and_then, length, bytes_eq, slice_index_or}
use Rattle.csv.specs.Reading.{default_config, records, strip_bom}
use Rattle.dr_files.specs.Numbers.{number_in}

abbrev pub Field : Type 0
Field = List ℕ

abbrev pub Record : Type 0
Record = List Field

-- the records that csv reads of a text: commas, double quotes, no header row, any number of fields. A byte order mark at the front is dropped.
abbrev pub records_of : List ℕ → List Record
records_of text = records default_config (strip_bom text)

-- the field at a place, counted from 0, or an empty one where the record has none there
abbrev pub field : Record → ℕ → Field
field r place = slice_index_or r place []

-- whether a record has this first field
abbrev pub begins_with : List ℕ → Record → Bool
begins_with name r = bytes_eq (field r 0) name

-- whether a record has this first field and this many fields
abbrev pub is_record : List ℕ → ℕ → Record → Bool
is_record name count r = (length r == count) && begins_with name r

-- whether a record has this first field and a list of one or more after it
abbrev pub is_list : List ℕ → Record → Bool
is_list name r = nat_le 2 (length r) && begins_with name r

abbrev pub number_at : Record → ℕ → Option ℕ
number_at r place = number_in (field r place)

-- what is read next of a record, where all before it was there
infixl 10 ◌>>=◌
abbrev pub ◌>>=◌ : {A B : Type 0} → Option A → (A → Option B) → Option B
found >>= next = option_and_then next found
