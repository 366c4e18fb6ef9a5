-- An event file that is written of events reads as these events.
use Rattle.std.proofs.Common.{◌≡◌, ◌<◌, ◌+◌, ◌^◌, ℕ, true, List, [], ◌∷◌, ◌++◌, length, map, codes, decimal, Some, Result, Ok, refl, sym, ap, ◌∙◌, arith, append_assoc}
use Rattle.std.specs.List.{list_all}
use Rattle.std.specs.Prelude.{nat_le}
use Rattle.std.proofs.lemmas.Bool.{and_parts, leb-true, lt-ltb}
use Rattle.csv.specs.Machine.{next_record}
use Rattle.csv.specs.Reading.{default_config, records_from, strip_bom}
use Rattle.csv.specs.declared.parser.State.TheVariants as st
use Rattle.dr_seq.specs.declared.event.Event.{Event}
use Rattle.dr_files.specs.Numbers.{is_digit}
use Rattle.dr_records.proofs.RowsLeft.{first_record}
use Rattle.dr_records.proofs.Resumed.{no_mark_1}
use Rattle.dr_records.specs.Records.{Field, Record}
use Rattle.dr_operations.specs.declared.operation.Movement.{Movement}
use Rattle.dr_operations.specs.declared.operation.Movement.TheVariants.{Deposit, Withdraw, Transfer}
use Rattle.dr_operations.specs.declared.operation.Operation.{Operation}
use Rattle.dr_operations.specs.EventFile.{IsMovementOfFile, events_in, events_of, operation_in}
use Rattle.dr_operations.specs.Operations.{movement_text, operation_of, operation_text}
use Rattle.dr_operations.specs.Written.{AreOfFile, file_of}
use Rattle.dr_operations.proofs.Decimals.{decimal_digits, number_back, plain_decimal}
use Rattle.dr_operations.proofs.EventFiles.{events_from, events_with, read_whole}
use Rattle.dr_operations.proofs.Lines.{ArePlain, line_of, line_read}

-- the fields of an operation's record, but for the first, which is the producer
abbrev fields_of : Movement → List Field
fields_of (Deposit account amount) = codes "deposit" ∷ decimal account ∷ decimal amount ∷ []
fields_of (Withdraw account amount) = codes "withdraw" ∷ decimal account ∷ decimal amount ∷ []
fields_of (Transfer from to amount) = codes "transfer" ∷ decimal from ∷ decimal to ∷ decimal amount ∷ []

plain : (m : Movement) → IsMovementOfFile m → ArePlain (fields_of m)
plain (Deposit account amount) is = ((omega arith, refl), (plain_decimal account (omega (arith, is.0)), (plain_decimal amount (omega (arith, is.1)), tt)))
plain (Withdraw account amount) is = ((omega arith, refl), (plain_decimal account (omega (arith, is.0)), (plain_decimal amount (omega (arith, is.1)), tt)))
plain (Transfer from to amount) is =
    ((omega arith, refl), (plain_decimal from (omega (arith, is.0)), (plain_decimal to (omega (arith, is.1)), (plain_decimal amount (omega (arith, is.2)), tt))))

the_line : (producer : ℕ) (m : Movement) → operation_text (record { producer = producer; movement = m }) ++ codes "\n" ≡ line_of (decimal producer ∷ fields_of m)
the_line producer (Deposit account amount) = simp append_assoc
the_line producer (Withdraw account amount) = simp append_assoc
the_line producer (Transfer from to amount) = simp append_assoc

-- its record reads as the operation
the_operation : (producer : ℕ) (m : Movement) → producer < 16 → IsMovementOfFile m → operation_in (decimal producer ∷ fields_of m) ≡ Some (record { producer = producer; movement = m })
the_operation producer (Deposit account amount) few is =
    rw (
      number_back producer (omega arith),
      lt-ltb producer 16 few,
      number_back account (omega (arith, is.0)),
      lt-ltb account (2 ^ 16) is.0,
      number_back amount (omega (arith, is.1)),
      lt-ltb amount (2 ^ 32) is.1,
    ) refl
the_operation producer (Withdraw account amount) few is =
    rw (
      number_back producer (omega arith),
      lt-ltb producer 16 few,
      number_back account (omega (arith, is.0)),
      lt-ltb account (2 ^ 16) is.0,
      number_back amount (omega (arith, is.1)),
      lt-ltb amount (2 ^ 32) is.1,
    ) refl
the_operation producer (Transfer from to amount) few is =
    rw (
      number_back producer (omega arith),
      lt-ltb producer 16 few,
      number_back from (omega (arith, is.0)),
      lt-ltb from (2 ^ 16) is.0,
      number_back to (omega (arith, is.1)),
      lt-ltb to (2 ^ 16) is.1,
      number_back amount (omega (arith, is.2)),
      lt-ltb amount (2 ^ 48) is.2,
    ) refl

abbrev row_of : Event → Record
row_of e = decimal (operation_of e).producer ∷ fields_of (operation_of e).movement

rows_read : (es : List Event) → AreOfFile es → records_from default_config (length (file_of es) + 1) st.StartRecord (file_of es) ≡ map row_of es
unfolding records_from next_record
rows_read [] are = refl
rows_read (e ∷ es) are =
    let o : Operation = operation_of e in
    let line = the_line o.producer o.movement in
    let plains : ArePlain (row_of e) = (plain_decimal o.producer (omega (arith, are.0.0.0)), plain o.movement are.0.0.1) in
    let read : next_record default_config st.StartRecord [] [] (file_of (e ∷ es)) ≡ Some (row_of e, st.StartRecord, file_of es) =
    ap (λ l. next_record default_config st.StartRecord [] [] (l ++ file_of es)) line ∙ line_read (decimal o.producer) (fields_of o.movement) (file_of es) plains in
    first_record default_config (length (file_of (e ∷ es)) + 1) st.StartRecord (file_of (e ∷ es)) (row_of e, st.StartRecord, file_of es) (omega arith) read
    ∙ ap (λ rows. row_of e ∷ rows) (rows_read es are.1)

-- it begins with a digit, and so with no mark
front : (digits more : List ℕ) → 0 < length digits → list_all is_digit digits ≡ true → strip_bom (digits ++ more) ≡ digits ++ more
front [] more some all = absurd (omega (arith, some))
front (b ∷ digits) more some all =
    let parts = and_parts (is_digit b) (list_all is_digit digits) all in
    let bounds = and_parts (nat_le 48 b) (nat_le b 57) parts.0 in
    let low = leb-true b 57 bounds.1 in
    no_mark_1 b (digits ++ more) (λ e. omega (arith, low, e))

no_text : strip_bom [] ≡ []
unfolding strip_bom
no_text = refl

apart : (a b m c d : List ℕ) → (((a ++ b) ++ m) ++ c) ++ d ≡ a ++ (b ++ (m ++ (c ++ d)))
apart a b m c d = append_assoc ((a ++ b) ++ m) c d ∙ append_assoc (a ++ b) m (c ++ d) ∙ append_assoc a b (m ++ (c ++ d))

unmarked_line : (a b m c d : List ℕ) → (0 < length a) × (list_all is_digit a ≡ true) → strip_bom ((((a ++ b) ++ m) ++ c) ++ d) ≡ (((a ++ b) ++ m) ++ c) ++ d
unmarked_line a b m c d digits = ap strip_bom (apart a b m c d) ∙ front a (b ++ (m ++ (c ++ d))) digits.0 digits.1 ∙ sym (apart a b m c d)

unmarked : (es : List Event) → AreOfFile es → strip_bom (file_of es) ≡ file_of es
unmarked [] are = no_text
unmarked (e ∷ es) are =
    unmarked_line (decimal (operation_of e).producer) (codes ",") (movement_text (operation_of e).movement) (codes "\n") (file_of es)
    (decimal_digits (operation_of e).producer (omega (arith, are.0.0.0)))

abbrev one : Event → List Event → Result (List Event) ℕ
one e es = Ok (e ∷ es)

events_read : (k : ℕ) (es : List Event) → AreOfFile es → events_from k (map row_of es) ≡ Ok es
unfolding events_from
events_read k [] are = refl
events_read k (e ∷ es) are =
    let o : Operation = operation_of e in
    ap (λ x. events_with k x (events_from (k + 1) (map row_of es))) (the_operation o.producer o.movement are.0.0.0 are.0.0.1)
    ∙ ap (events_with k (Some o)) (events_read (k + 1) es are.1) ∙ ap (λ x. one x es) are.0.1

-- an event file of events reads as these events
pub file_back : (es : List Event) → AreOfFile es → events_of (file_of es) ≡ Ok es
file_back es are =
    ap (λ text. events_in (records_from default_config (length text + 1) st.StartRecord text)) (unmarked es are)
    ∙ ap events_in (rows_read es are) ∙ read_whole (map row_of es) ∙ events_read 1 es are
