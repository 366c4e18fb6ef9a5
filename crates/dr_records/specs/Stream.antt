-- The records of a stream whose bytes come one at a time.
use Rattle.std.specs.Prelude.{◌≡◌, ℕ, Bool, true, false, List, [], ◌∷◌}
use Rattle.csv.specs.Records.{fields_of}
use Rattle.dr_records.specs.Records.{Record}
use Rattle.dr_records.specs.Resuming.{records_at}
use Rattle.dr_records.specs.declared.stream.Stream.{Stream}

-- the records that a stream has yet to give, if these are the bytes that still come
abbrev pub records_to_come : Stream → List ℕ → List Record
records_to_come stream more = records_at stream.place (fields_of stream.row) stream.field.items more

-- the record that a stream read last
abbrev pub record_in : Stream → Record
record_in stream = fields_of stream.last

-- a byte ends a record, which is the first of those to come, or it ends none
abbrev pub Takes : ℕ → Stream → Stream → Bool → Type 0
Takes byte old new true = (more : List ℕ) → records_to_come old (byte ∷ more) ≡ record_in new ∷ records_to_come new more
Takes byte old new false = (more : List ℕ) → records_to_come old (byte ∷ more) ≡ records_to_come new more

-- where no byte comes any more, what is left of a record is one, and nothing is left else
abbrev pub Ends : Stream → Stream → Bool → Type 0
Ends old new true = records_to_come old [] ≡ record_in new ∷ []
Ends old new false = records_to_come old [] ≡ []
