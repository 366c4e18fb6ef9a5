-- The event file: an operation a record.
use Rattle.std.specs.Prelude.{ℕ, ◌+◌, ◌<◌, ◌^◌, Bool, ◌==◌, ◌&&◌, not, nat_lt, if◌then◌else◌, List, length, map, Option, Some, None, Result, Ok, Err, bytes_eq, codes}
use Rattle.std.specs.Option.{is_some}
use Rattle.std.specs.List.{filter_map, list_all, position_or_len}
use Rattle.dr_seq.specs.declared.event.Event.{Event}
use Rattle.dr_operations.specs.declared.operation.Operation.{Operation}
use Rattle.dr_operations.specs.declared.operation.Movement.{Movement}
use Rattle.dr_operations.specs.declared.operation.Movement.TheVariants.{Deposit, Withdraw, Transfer}
use Rattle.dr_operations.specs.Operations.{event_for}
use Rattle.dr_records.specs.Records.{Record, ◌>>=◌, field, number_at, records_of}

abbrev pub below : ℕ → Option ℕ → Option ℕ
below bound None = None
below bound (Some n) = if nat_lt n bound then Some n else None

-- the number in the field at a place, if one stands there that is below a bound
abbrev pub number_below : ℕ → Record → ℕ → Option ℕ
number_below bound r place = below bound (number_at r place)

-- whether a record has this second field and this many fields
abbrev pub is_kind : List ℕ → ℕ → Record → Bool
is_kind kind count r = (length r == count) && bytes_eq (field r 1) kind

-- `PRODUCER,KIND,ACCOUNT,AMOUNT`: a movement on one account
abbrev pub on_account : (ℕ → ℕ → Movement) → Record → Option Operation
on_account movement r = do
  producer ← number_below 16 r 0
  account ← number_below (2 ^ 16) r 2
  amount ← number_below (2 ^ 32) r 3
  Some (record { producer = producer; movement = movement account amount })

abbrev pub deposit : Record → Option Operation
deposit r = on_account (λ account amount. Deposit account amount) r

abbrev pub withdraw : Record → Option Operation
withdraw r = on_account (λ account amount. Withdraw account amount) r

-- `PRODUCER,transfer,FROM,TO,AMOUNT`
abbrev pub transfer : Record → Option Operation
transfer r = do
  producer ← number_below 16 r 0
  from ← number_below (2 ^ 16) r 2
  to ← number_below (2 ^ 16) r 3
  amount ← number_below (2 ^ 48) r 4
  Some (record { producer = producer; movement = Transfer from to amount })

-- the operation of a record, if it is one
abbrev pub operation_in : Record → Option Operation
operation_in r =
    if is_kind (codes "deposit") 4 r then deposit r
    else if is_kind (codes "withdraw") 4 r then withdraw r
    else if is_kind (codes "transfer") 5 r then transfer r
    else None

abbrev pub is_operation : Record → Bool
is_operation r = is_some (operation_in r)

-- the events of the records' operations, in their order; or, where a record is no operation, the number of the first such one, counted from 1
unfoldable pub events_in : List Record → Result (List Event) ℕ
events_in records =
    if list_all is_operation records then Ok (map event_for (filter_map operation_in records))
    else Err (position_or_len (λ r. not (is_operation r)) records + 1)

-- the events of a file's bytes, or the number of its first bad record
abbrev pub events_of : List ℕ → Result (List Event) ℕ
events_of input = events_in (records_of input)

-- accounts and amounts that a record can name
abbrev pub IsMovementOfFile : Movement → Type 0
IsMovementOfFile (Deposit account amount) = (account < 2 ^ 16) × (amount < 2 ^ 32)
IsMovementOfFile (Withdraw account amount) = (account < 2 ^ 16) × (amount < 2 ^ 32)
IsMovementOfFile (Transfer from to amount) = (from < 2 ^ 16) × (to < 2 ^ 16) × (amount < 2 ^ 48)

-- an operation that a record can say
abbrev pub IsOfFile : Operation → Type 0
IsOfFile o = (o.producer < 16) × IsMovementOfFile o.movement
