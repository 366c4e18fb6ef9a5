-- A line of plain fields is one record.
use Rattle.std.proofs.Common.{◌≡◌, ◌+◌, ◌==◌, ℕ, true, false, List, [], ◌∷◌, ◌++◌, nat_lt, Option, Some, refl, sym, ap, ◌∙◌, arith, append-nil, append_assoc}
use Rattle.std.specs.List.{list_all}
use Rattle.std.proofs.lemmas.Bool.{and_parts, ltb-true, ne_eqb}
use Rattle.csv.specs.Machine.{Read, next_record}
use Rattle.csv.specs.Reading.{default_config}
use Rattle.csv.specs.declared.parser.State.TheVariants as st
use Rattle.dr_records.specs.Records.{Field, Record}
use Rattle.dr_operations.proofs.Decimals.{IsPlain}

-- the line of a record's fields
abbrev pub line_of : List Field → List ℕ
line_of [] = 10 ∷ []
line_of (field ∷ []) = field ++ 10 ∷ []
line_of (field ∷ next ∷ fields) = field ++ 44 ∷ line_of (next ∷ fields)

abbrev pub ArePlain : List Field → Type 0
ArePlain [] = Unit {0}
ArePlain (field ∷ fields) = IsPlain field × ArePlain fields

-- plain bytes join the field at hand
run : (fields : Record) (field x more : List ℕ) → list_all (nat_lt 44) x ≡ true
    → next_record default_config st.InField fields field (x ++ more) ≡ next_record default_config st.InField fields (field ++ x) more
unfolding next_record
run fields field [] more all = rw (append-nil field) refl
run fields field (b ∷ x) more all =
    let parts = and_parts (nat_lt 44 b) (list_all (nat_lt 44) x) all in
    let above = ltb-true 44 b parts.0 in
    let comma : (b == 44) ≡ false = ne_eqb b 44 (λ e. omega (arith, above, e)) in
    let back : (b == 13) ≡ false = ne_eqb b 13 (λ e. omega (arith, above, e)) in
    let feed : (b == 10) ≡ false = ne_eqb b 10 (λ e. omega (arith, above, e)) in
    rw (comma, back, feed) (run fields (field ++ b ∷ []) x more parts.1 ∙ ap (λ (f : List ℕ). next_record default_config st.InField fields f more) (append_assoc field (b ∷ []) x))

-- a field begins with its first byte
begin : (fields : Record) (x more : List ℕ) → IsPlain x → next_record default_config st.StartField fields [] (x ++ more) ≡ next_record default_config st.InField fields x more
unfolding next_record
begin fields [] more is = absurd (omega (arith, is.0))
begin fields (b ∷ x) more is =
    let parts = and_parts (nat_lt 44 b) (list_all (nat_lt 44) x) is.1 in
    let above = ltb-true 44 b parts.0 in
    let comma : (b == 44) ≡ false = ne_eqb b 44 (λ e. omega (arith, above, e)) in
    let back : (b == 13) ≡ false = ne_eqb b 13 (λ e. omega (arith, above, e)) in
    let feed : (b == 10) ≡ false = ne_eqb b 10 (λ e. omega (arith, above, e)) in
    let quote : (b == 34) ≡ false = ne_eqb b 34 (λ e. omega (arith, above, e)) in
    rw (quote, comma, back, feed) (run fields (b ∷ []) x more parts.1)

-- so does a record
begin_record : (x more : List ℕ) → IsPlain x → next_record default_config st.StartRecord [] [] (x ++ more) ≡ next_record default_config st.StartField [] [] (x ++ more)
unfolding next_record
begin_record [] more is = absurd (omega (arith, is.0))
begin_record (b ∷ x) more is =
    let parts = and_parts (nat_lt 44 b) (list_all (nat_lt 44) x) is.1 in
    let above = ltb-true 44 b parts.0 in
    let back : (b == 13) ≡ false = ne_eqb b 13 (λ e. omega (arith, above, e)) in
    let feed : (b == 10) ≡ false = ne_eqb b 10 (λ e. omega (arith, above, e)) in
    rw (back, feed) refl

ended : (fields : Record) (field more : List ℕ) → next_record default_config st.InField fields field (10 ∷ more) ≡ Some (fields ++ field ∷ [], st.StartRecord, more)
unfolding next_record
ended fields field more = refl

comma_on : (fields : Record) (field more : List ℕ) → next_record default_config st.InField fields field (44 ∷ more) ≡ next_record default_config st.StartField (fields ++ field ∷ []) [] more
unfolding next_record
comma_on fields field more = refl

abbrev whole : Record → List ℕ → Option Read
whole fields rest = Some (fields, st.StartRecord, rest)

fields_on : (done : Record) (field : Field) (fields : List Field) (more : List ℕ) → ArePlain (field ∷ fields)
    → next_record default_config st.StartField done [] (line_of (field ∷ fields) ++ more) ≡ Some (done ++ field ∷ fields, st.StartRecord, more)
fields_on done field [] more are =
    ap (next_record default_config st.StartField done []) (append_assoc field (10 ∷ []) more) ∙ begin done field (10 ∷ more) are.0 ∙ ended done field more
fields_on done field (next ∷ fields) more are =
    ap (next_record default_config st.StartField done []) (append_assoc field (44 ∷ line_of (next ∷ fields)) more)
    ∙ begin done field (44 ∷ line_of (next ∷ fields) ++ more) are.0 ∙ comma_on done field (line_of (next ∷ fields) ++ more)
    ∙ fields_on (done ++ field ∷ []) next fields more are.1
    ∙ ap (λ (l : Record). whole l more) (append_assoc done (field ∷ []) (next ∷ fields))

-- a line is read as the record of its fields
pub line_read : (field : Field) (fields : List Field) (more : List ℕ) → ArePlain (field ∷ fields)
    → next_record default_config st.StartRecord [] [] (line_of (field ∷ fields) ++ more) ≡ Some (field ∷ fields, st.StartRecord, more)
line_read field [] more are =
    ap (next_record default_config st.StartRecord [] []) (append_assoc field (10 ∷ []) more) ∙ begin_record field (10 ∷ more) are.0
    ∙ sym (ap (next_record default_config st.StartField [] []) (append_assoc field (10 ∷ []) more)) ∙ fields_on [] field [] more are
line_read field (next ∷ fields) more are =
    ap (next_record default_config st.StartRecord [] []) (append_assoc field (44 ∷ line_of (next ∷ fields)) more) ∙ begin_record field (44 ∷ line_of (next ∷ fields) ++ more) are.0
    ∙ sym (ap (next_record default_config st.StartField [] []) (append_assoc field (44 ∷ line_of (next ∷ fields)) more)) ∙ fields_on [] field (next ∷ fields) more are
