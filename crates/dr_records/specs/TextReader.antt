-- A reader of a text: how it reads, and the records that it has left.
use Rattle.std.specs.Prelude.{◌≡◌, ◌+◌, ℕ, Bool, false, true, List, [], ◌∷◌, length, Option, Some, None}
use Rattle.std.specs.Borrow.{Bor}
use Rattle.csv.specs.Reading.{default_config, has_failed, is_flexible, names_headers, reader_config, reader_headers, reader_state, reader_trim, records_from, source_of, took_first}
use Rattle.csv.specs.Records.{Row, fields_of}
use Rattle.csv.specs.declared.parser.State.{State}
use Rattle.csv.specs.declared.reader.Reader.{Reader}
use Rattle.csv.specs.declared.reader.Trim.TheVariants as trim
use Rattle.dr_records.specs.Records.{Record}

abbrev pub records_from_state : State → Option (List ℕ) → List Record
records_from_state s None = []
records_from_state s (Some text) = records_from default_config (length text + 1) s text

-- the records that a reader of a text has yet to give: none, once it has failed
abbrev pub left_in : Reader (Bor (List ℕ)) → List Record
left_in reader = records_from_state (reader_state reader) (source_of (λ text. Some text.now) reader)

-- each read of a reader is of one record: commas, double quotes, no header row, any number of fields
pub record ReadsRecords (reader : Reader (Bor (List ℕ))) : Type 0 where
  pub config : reader_config reader ≡ default_config
  pub trim : reader_trim reader ≡ trim.None
  pub flexible : is_flexible reader ≡ true
  pub nameless : names_headers reader ≡ false
  pub first : took_first reader ≡ false → reader_headers reader ≡ None

-- a reader that failed reads nothing more
abbrev pub IsTextReader : Reader (Bor (List ℕ)) → Type 0
IsTextReader reader = has_failed reader ≡ false → ReadsRecords reader

-- what was read is the first of the records that were left, or none was left
abbrev pub TakesFirst : Reader (Bor (List ℕ)) → Reader (Bor (List ℕ)) → Row → Bool → Type 0
TakesFirst old new row true = left_in old ≡ fields_of row ∷ left_in new
TakesFirst old new row false = left_in old ≡ []
