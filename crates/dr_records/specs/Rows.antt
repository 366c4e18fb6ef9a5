-- The records that rows have left, and what reading one leaves.
use Rattle.std.specs.Prelude.{◌≡◌, Bool, List, [], ◌∷◌, Option, Some, None, Result, Ok, Err}
use Rattle.std.specs.Borrow.{Bor, Fml, MutBor}
use Rattle.std.specs.Io.BufRead.{Rests}
use mir.Syntax.{named}
use Rattle.csv.specs.Records.{Row, fields_of}
use Rattle.dr_records.specs.Records.{Record}
use Rattle.dr_records.specs.TextReader.{TakesFirst, left_in}
use Rattle.dr_records.specs.declared.rows.Rows.{Rows}
use Rattle.dr_records.specs.contracts.rows.Rows.{the_row}

abbrev pub rows_left : Rows → List Record
rows_left rows = left_in rows.reader

-- the record that was read was the first of those that were left, or none was left; after memory ran out none is left
abbrev pub Advances : {E : Type 0} → Rows → Rows → Result Bool E → Type 0
Advances old new (Ok found) = TakesFirst old.reader new.reader new.row found
Advances old new (Err e) = rows_left new ≡ []

-- the same, of the record that is lent
abbrev pub Gives : {E : Type 0} → Rows → Rows → Result (Option (Bor Row)) E → Type 0
Gives old new (Ok (Some row)) = rows_left old ≡ fields_of row.now ∷ rows_left new
Gives old new (Ok None) = rows_left old ≡ []
Gives old new (Err e) = rows_left new ≡ []

-- the rows once the record is no longer lent. `named 1` is the place of their lifetime in the signature.
abbrev pub Lends : {E : Type 0} → MutBor Rows → Result (Option (Bor Row)) E → Fml
Lends rows result = Rests (the_row (record { mir = named 1; lft = [] })) rows (λ new. Gives rows.now new result)
