-- Numbers of a file: one or more decimal digits, of a value below 2^64. Leading zeros are allowed.
use Rattle.std.specs.Prelude.{ℕ, ◌+◌, ◌-◌, ◌*◌, ◌^◌, Bool, ◌&&◌, nat_lt, nat_le, if◌then◌else◌, List, [], ◌∷◌, Option, Some, None, fold}
use Rattle.std.specs.List.{list_all}

-- from '0' to '9'
abbrev pub is_digit : ℕ → Bool
is_digit byte = nat_le 48 byte && nat_le byte 57

-- the value of digits in base ten
abbrev pub value_of : List ℕ → ℕ
value_of digits = fold (λ n digit. n * 10 + (digit - 48)) 0 digits

-- the number of a field, if it is one
abbrev pub number_in : List ℕ → Option ℕ
number_in [] = None
number_in (byte ∷ bytes) = if list_all is_digit (byte ∷ bytes) && nat_lt (value_of (byte ∷ bytes)) (2 ^ 64) then Some (value_of (byte ∷ bytes)) else None
