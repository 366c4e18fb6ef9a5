-- Texts within the page's data, which is JSON in a script element.
use Rattle.std.specs.Prelude.{ℕ, ◌+◌, ◌/◌, ◌%◌, Bool, not, ◌==◌, ◌&&◌, nat_le, nat_lt, if◌then◌else◌, List, [], ◌∷◌, ◌++◌, flat_map, length, codes}
use Rattle.std.specs.List.{list_all, range_with_len}
use Rattle.dr_records.specs.Records.{Record, field}

-- the digits from '0' to '9' and from 'a' to 'f'
abbrev pub hex_digit : ℕ → ℕ
hex_digit value = if nat_lt value 10 then 48 + value else 87 + value

-- printable ASCII, from the blank to the tilde
abbrev pub is_printable : ℕ → Bool
is_printable byte = nat_le 32 byte && nat_le byte 126

-- a byte within a string: quotes and line feeds as JSON escapes them, and `<` by its number, so that nothing in the data
-- ends the script element. A byte that is no printable ASCII is `\xNN`, and so is a backslash, which stands nowhere else.
abbrev pub byte_text : ℕ → List ℕ
byte_text byte =
    if byte == 34 then codes "\\\""
    else if byte == 92 then codes "\\\\x5c"
    else if byte == 60 then codes "\\u003c"
    else if byte == 10 then codes "\\n"
    else if is_printable byte then byte ∷ []
    else codes "\\\\x" ++ hex_digit (byte / 16) ∷ hex_digit (byte % 16) ∷ []

abbrev pub bytes_text : List ℕ → List ℕ
bytes_text bytes = flat_map byte_text bytes

-- the parts of a list are separated by commas
abbrev pub comma_before : ℕ → List ℕ
comma_before place = if place == 0 then [] else codes ","

abbrev pub field_text : Record → ℕ → List ℕ
field_text r place = comma_before place ++ bytes_text (field r place)

-- a record as a line of its file, but for quotes
abbrev pub fields_text : Record → List ℕ
fields_text r = flat_map (field_text r) (range_with_len 0 (length r))

abbrev pub bool_text : Bool → List ℕ
bool_text b = if b then codes "true" else codes "false"

-- no byte is `<`, by which a browser knows the end of a script element
abbrev pub opens_no_tag : List ℕ → Bool
opens_no_tag text = list_all (λ byte. not (byte == 60)) text
